use Rattle.framehop_analysis.specs.Laws.Aarch64.Runs.{IsRunFrom}
use Rattle.framehop_analysis.proofs.aarch64.instruction_analysis.prologue.sp_offset_of_run.Given as goal

abbrev pub invariant-loop-lowered_by : goal.invariant-loop-lowered_by
invariant-loop-lowered_by l = IsRunFrom l.slice_from_start l.start l.sp_offset

abbrev pub decreases-loop-lowered_by : goal.decreases-loop-lowered_by
decreases-loop-lowered_by l = l.start
