-- The FDE of an address, by an index.
use Rattle.std.proofs.Common.{◌≡◌, ℕ, List, Option, None, sym, ap, ◌∙◌}
use Rattle.framehop_dwarf.specs.Index.{IsIndexOfAll, fde_offset_for}
use Rattle.framehop.specs.CallFrames.{CallFrames, offset_among, offset_by, fde_offset_of}

pub indexed-offset : (frames : CallFrames) (index : List (ℕ × ℕ)) (relative : ℕ) (offset : Option ℕ) → frames.header ≡ None → IsIndexOfAll frames.section frames.base_svma index → offset ≡ fde_offset_for index relative → offset ≡ fde_offset_of frames relative
unfolding fde_offset_of
indexed-offset frames index relative offset none all is =
    is ∙ all.same relative ∙ sym (ap (λ h. offset_by frames h relative) none ∙ ap (λ pairs. offset_among pairs relative) all.are_all)
