use Rattle.std.proofs.Common.{◌≡◌, take}
use Rattle.framehop_dump_stacks.specs.Problems.{needed_size}
use Rattle.framehop_dump_stacks.proofs.problems.needed_size.Given as goal

abbrev pub invariant-loop-range : goal.invariant-loop-range
invariant-loop-range l = l.most ≡ needed_size (take l.range-index l.ranges)
