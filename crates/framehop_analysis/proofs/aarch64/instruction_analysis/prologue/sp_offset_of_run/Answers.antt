use Rattle.std.proofs.Common.{arith}
use Rattle.std.proofs.lemmas.Int.{ints}
use Rattle.framehop_analysis.specs.Laws.Aarch64.Runs.{run-none, run-back, run-longest}
use Rattle.framehop_analysis.proofs.aarch64.instruction_analysis.prologue.sp_offset_of_run.Goals as goal

pub loop-lowered_by-init : goal.loop-lowered_by-init
loop-lowered_by-init c = run-none c.args.slice_from_start.now

pub loop-lowered_by-preserved : goal.loop-lowered_by-preserved
loop-lowered_by-preserved c =
    let step = c.in-Some.ensures.step in
    let low = c.in-Some.ensures.bounds.0 in
    let high = c.in-Some.ensures.bounds.1 in
    run-back _ _ step.0 _ c.in-Some.lowered_by _ c.loop-lowered_by.invariant step.1 step.2 step.3 step.4 low high
    (omega (arith, ints, c.loop-lowered_by.invariant.low, c.loop-lowered_by.invariant.high, c.loop-lowered_by.invariant.ends))

pub returns : goal.returns
returns c =
    let found = c.loop-lowered_by.invariant in
    (found.run, run-longest _ _ _ found c.in_default.ensures.step, found.depth_is)
