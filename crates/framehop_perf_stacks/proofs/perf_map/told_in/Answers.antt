use Rattle.std.proofs.Common.{◌∙◌, Some, None, ap, sym, append-nil}
use Rattle.framehop_perf_stacks.specs.PerfMap.{function_in, line_view}
use Rattle.framehop_perf_stacks.proofs.LinesLemmas.{kept-more}
use Rattle.framehop_perf_stacks.proofs.perf_map.told_in.Goals.{in-Some+in_ok-push, in_default}
use Rattle.framehop_perf_stacks.proofs.perf_map.told_in.Goals as goal

pub loop-line-preserved : goal.loop-line-preserved
loop-line-preserved c =
    let lines = c.args.lines.now in
    let l = c.loop-line in
    elim c.match-line_in.branch [ in-Some+in_ok-push w ↦ kept-more line_view function_in lines l.line-index _ l.told.items _ (Some w.in-Some.line) c.loop-line-test.true w.in-Some.ensures l.invariant (ap (λ told. told.items) w.told-is ∙ w.in_ok-push.ensures.items) | in_default w ↦ kept-more line_view function_in lines l.line-index _ l.told.items _ None c.loop-line-test.true w.in_default.ensures l.invariant (ap (λ told. told.items) w.told-is ∙ sym (append-nil l.told.items)) ]
