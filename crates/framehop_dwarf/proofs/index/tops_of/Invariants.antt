use Rattle.std.proofs.Common.{◌-◌, ◌^◌, ◌≤◌, length}
use Rattle.framehop_dwarf.specs.Tree.{AreTops}
use Rattle.framehop_dwarf.proofs.index.tops_of.Given as goal

abbrev pub invariant-loop-place : goal.invariant-loop-place
invariant-loop-place l = record {
  inside : l.place ≤ length l.tree;
  tops : AreTops l.tree l.shift l.last_start l.place (2 ^ 32 - 1) l.tops.items;
}

abbrev pub decreases-loop-place : goal.decreases-loop-place
decreases-loop-place l = l.place
