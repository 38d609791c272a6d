use Rattle.std.proofs.Common.{◌≡◌, ◌<◌, ◌++◌, ◌∙◌, ap, string_bytes, length, get_or, take, map}
use Rattle.framehop.specs.CodeAddress.{location_of}
use Rattle.framehop_walk.specs.Text.{frame_line, frame_lines}
use Rattle.framehop_walk.proofs.Lines.{frame_lines_more, lines_behind}
use Rattle.framehop_walk.proofs.replies.print_frames.Goals as goal

pub loop-frame-preserved : goal.loop-frame-preserved
loop-frame-preserved c =
    let within : c.loop-frame.frame-index < length c.args.frames.now.items = rw c.deref-frame-items.ensures.value at c.loop-frame-test.true in
    let item : c.frame-item.result ≡ get_or c.args.frames.now.items c.loop-frame.frame-index c.frame-item.result = rw c.deref-frame-items.ensures.value at c.frame-item.is in
    lines_behind (string_bytes c.args.out.now) (string_bytes c.loop-frame.out) (string_bytes c.print_frame.new.out)
    (frame_lines (map location_of (take c.loop-frame.frame-index c.args.frames.now.items))) (frame_line (location_of c.frame-item.result))
    c.in_ok-print_frame.ensures c.loop-frame.invariant
    ∙ ap (λ lines. string_bytes c.args.out.now ++ lines) (frame_lines_more c.args.frames.now.items c.loop-frame.frame-index c.frame-item.result within item)
