use Rattle.std.proofs.Common.{◌≤◌, drop, length}
use Rattle.framehop_dump_stacks.specs.Problems.{HasFirstMappings}
use Rattle.framehop_dump_stacks.proofs.first_mappings.by_file.Given as goal

abbrev pub invariant-loop-left : goal.invariant-loop-left
invariant-loop-left l = (l.left ≤ length l.mappings) × HasFirstMappings (drop l.left l.mappings) l.by_file

abbrev pub decreases-loop-left : goal.decreases-loop-left
decreases-loop-left l = l.left
