use Rattle.std.proofs.Common.{◌∙◌, ap, take, map, arith, rules, length, ◌<◌}
use Rattle.framehop_frames.specs.Line.{is_sure}
use Rattle.framehop_frames.specs.Stack.{shown_frame}
use Rattle.framehop_frames.proofs.LineLemmas.{cut-at}
use Rattle.framehop_frames.proofs.line.sure_part.Goals as goal

pub returns-then-not-is_sure : goal.returns-then-not-is_sure
returns-then-not-is_sure g c =
    let l = c.loop-frame in
    let frames = c.args.frames.now in
    let within : l.frame-index < length frames = omega arith in
    ap (λ n. map shown_frame (take n frames)) l.invariant.0
    ∙ cut-at is_sure shown_frame frames l.frame-index c.frame-item.result within l.invariant.1 (search rules)
