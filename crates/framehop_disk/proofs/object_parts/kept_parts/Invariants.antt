use Rattle.std.proofs.Common.{◌≡◌, ◌++◌, drop}
use Rattle.framehop_disk.specs.ObjectParts.{kept_from}
use Rattle.framehop_disk.proofs.object_parts.kept_parts.Given as goal

abbrev pub invariant-loop-gap : goal.invariant-loop-gap
invariant-loop-gap l = l.parts.items ++ kept_from l.start l.size (drop l.gap-index l.left_out) ≡ kept_from 0 l.size l.left_out
