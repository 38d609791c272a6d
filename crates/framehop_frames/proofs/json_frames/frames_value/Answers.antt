use Rattle.std.proofs.Common.{◌<◌, length, ap, ◌∙◌, arith}
use Rattle.serde_json.specs.View.{view}
use Rattle.framehop_frames.specs.JsonFrames.{frame_data}
use Rattle.framehop_frames.specs.Stack.{shown_frame}
use Rattle.framehop_frames.proofs.JsonLemmas.{values-next}
use Rattle.framehop_frames.proofs.json_frames.frames_value.Goals as goal

pub loop-number-preserved : goal.loop-number-preserved
loop-number-preserved g c =
    let l = c.loop-number in
    let frames = c.args.frames.now in
    let value = frame_data c.args.files.now c.args.mappings.now in
    let within : l.number < length frames = omega arith in
    rw c.in_ok-push.ensures.items
    (values-next value view shown_frame frames l.number c.index-frames-number.result within l.values.items _ l.invariant
    (c.in_ok-frame_value.ensures ∙ ap (λ one. value l.number (shown_frame one)) c.index-frames-number.is))
