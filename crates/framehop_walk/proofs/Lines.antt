-- The lines of a walk's frames.
use Rattle.std.proofs.Common.{◌≡◌, ℕ, ◌+◌, ◌<◌, List, [], ◌∷◌, ◌++◌, take, map, get_or, length, sym, ap, ◌∙◌, append_assoc, append-nil}
use Rattle.std.proofs.lemmas.List.{take_more, map-append}
use Rattle.framehop_core.specs.declared.code_address.FrameAddress.{FrameAddress}
use Rattle.framehop.specs.CodeAddress.{FrameLocation, location_of}
use Rattle.framehop_walk.specs.Text.{frame_line, frame_lines}

-- the lines of a list that grows by one
frame_lines-push : (frames : List FrameLocation) (frame : FrameLocation) → frame_lines (frames ++ frame ∷ []) ≡ frame_lines frames ++ frame_line frame
frame_lines-push [] frame = append-nil (frame_line frame)
frame_lines-push (first ∷ frames) frame =
    ap (λ lines. frame_line first ++ lines) (frame_lines-push frames frame) ∙ sym (append_assoc (frame_line first) (frame_lines frames) (frame_line frame))

-- the lines of the first frames and the next one
pub frame_lines_more : (frames : List FrameAddress) (i : ℕ) (frame : FrameAddress) → i < length frames → frame ≡ get_or frames i frame
    → frame_lines (map location_of (take i frames)) ++ frame_line (location_of frame) ≡ frame_lines (map location_of (take (i + 1) frames))
frame_lines_more frames i frame within is =
    let e : take (i + 1) frames ≡ take i frames ++ frame ∷ [] = take_more frames i frame within ∙ ap (λ f. take i frames ++ f ∷ []) (sym is) in
    sym (ap (λ fs. frame_lines (map location_of fs)) e ∙ ap frame_lines (map-append location_of (take i frames) (frame ∷ [])) ∙ frame_lines-push (map location_of (take i frames)) (location_of frame))

-- a text that holds these lines, with one more behind
pub lines_behind : (text before after lines line : List ℕ) → after ≡ before ++ line → before ≡ text ++ lines → after ≡ text ++ (lines ++ line)
lines_behind text before after lines line last first = last ∙ ap (λ bytes. bytes ++ line) first ∙ append_assoc text lines line
