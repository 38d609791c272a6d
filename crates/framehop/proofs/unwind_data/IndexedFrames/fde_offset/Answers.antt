use Rattle.std.proofs.Common.{◌≡◌, subst, refl}
use Rattle.framehop.specs.CallFrames.{CallFrames, fde_offset_of}
use Rattle.framehop.proofs.FramesLemmas.{indexed-offset}
use Rattle.framehop.proofs.unwind_data.IndexedFrames.fde_offset.Goals as goal

pub returns : goal.returns
returns g c =
    subst (λ (frames : CallFrames). c.fde_offset_for_relative_address.result ≡ fde_offset_of frames c.args.relative_address) c.self.view_is
    (indexed-offset _ c.self.inside.index c.args.relative_address c.fde_offset_for_relative_address.result refl c.self.invariant c.fde_offset_for_relative_address.ensures.exact)
