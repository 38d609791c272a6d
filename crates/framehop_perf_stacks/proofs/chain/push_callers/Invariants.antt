use Rattle.std.proofs.Common.{◌≡◌, ◌++◌, map, take}
use Rattle.framehop_core.specs.CodeAddress.{location_of}
use Rattle.framehop_perf_stacks.specs.Chain.{caller_at}
use Rattle.framehop_perf_stacks.proofs.chain.push_callers.Given as goal

abbrev pub invariant-loop-caller : goal.invariant-loop-caller
invariant-loop-caller l = map location_of l.frames.items ≡ map location_of l.initial.frames.items ++ map caller_at (take l.caller-index l.callers)
