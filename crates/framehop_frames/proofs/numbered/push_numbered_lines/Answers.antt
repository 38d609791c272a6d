use Rattle.std.proofs.Common.{◌<◌, ◌++◌, length, map, ap, ◌∙◌, arith}
use Rattle.std.proofs.lemmas.List.{take_all}
use Rattle.framehop_frames.specs.Line.{frame_line}
use Rattle.framehop_frames.specs.Numbered.{numbered_from}
use Rattle.framehop_frames.specs.Stack.{shown_frame}
use Rattle.framehop_frames.proofs.NumberedLemmas.{numbered-next}
use Rattle.framehop_frames.proofs.numbered.push_numbered_lines.Goals as goal

pub loop-number-preserved : goal.loop-number-preserved
loop-number-preserved g c =
    let l = c.loop-number in
    let frames = c.args.frames.now in
    let within : l.number < length frames = omega arith in
    let line = frame_line c.args.files.now c.args.mappings.now in
    let pushed = c.in_ok-push_frame_line.ensures
    ∙ ap (λ frame. c.push_number.new.block.items ++ line (shown_frame frame)) c.index-frames-number.is in
    numbered-next line shown_frame frames l.number c.index-frames-number.result within _ _ _ _ l.invariant c.in_ok-push_number.ensures pushed

pub returns : goal.returns
returns g c =
    let l = c.loop-number in
    let frames = c.args.frames.now in
    l.invariant
    ∙ ap (λ some. c.args.block.now.items ++ numbered_from 0 (frame_line c.args.files.now c.args.mappings.now) (map shown_frame some))
    (take_all l.number frames (omega arith))
