use Rattle.std.proofs.Common.{rules, ◌++◌, ap, sym, ◌∙◌}
use Rattle.std.proofs.lemmas.Iterator.Adapters.{YieldsList-from_rev_slice}
use Rattle.std.proofs.lemmas.Iterator.Consumers.{YieldsList-end}
use Rattle.framehop_frames.specs.Line.{frame_label}
use Rattle.framehop_frames.specs.Stack.{shown_frame}
use Rattle.framehop_frames.proofs.LineLemmas.{frames_text-map}
use Rattle.framehop_frames.proofs.line.push_frames.Goals as goal

pub returns : goal.returns
returns g c =
    let frames = YieldsList-from_rev_slice c.args.frames.now (search rules) in
    let yielded = YieldsList-end frames c.loop-frame.yielded c.loop-frame.frame-iterator c.loop-frame.yielded_by c.next.result c.next.new.self c.in-None.is c.next.ensures.steps in
    let labels = frames_text-map (frame_label c.args.files.now c.args.mappings.now) shown_frame c.args.frames.now in
    (rw yielded.0 at c.loop-frame.invariant) ∙ ap (λ text. c.args.line.now.items ++ text) (sym labels)
