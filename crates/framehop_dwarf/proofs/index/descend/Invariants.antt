use Rattle.std.proofs.Common.{◌-◌, length}
use Rattle.framehop_dwarf.specs.Tree.{IsOnPath}
use Rattle.framehop_dwarf.proofs.index.descend.Given as goal

abbrev pub invariant-loop-turn : goal.invariant-loop-turn
invariant-loop-turn l = IsOnPath l.tree l.fn.address l.place

abbrev pub invariant-loop-place : goal.invariant-loop-place
invariant-loop-place l = IsOnPath l.tree l.fn.address l.place

abbrev pub decreases-loop-place : goal.decreases-loop-place
decreases-loop-place l = length l.tree - l.place
