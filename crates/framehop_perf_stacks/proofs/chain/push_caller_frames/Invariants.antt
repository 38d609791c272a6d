use Rattle.std.proofs.Common.{◌≡◌, ◌++◌, map, take}
use Rattle.framehop_frames.specs.Stack.{shown_frame}
use Rattle.framehop_perf_stacks.specs.Chain.{caller_shown}
use Rattle.framehop_perf_stacks.proofs.chain.push_caller_frames.Given as goal

abbrev pub invariant-loop-caller : goal.invariant-loop-caller
invariant-loop-caller l = map shown_frame l.frames.items ≡ map shown_frame l.initial.frames.items ++ map caller_shown (take l.caller-index l.callers)
