use Rattle.std.proofs.Common.{map}
use Rattle.framehop_dwarf.specs.Index.{pair_of_key}
use Rattle.framehop_dwarf.proofs.Filled.{IsLevel, IsFilledTo}
use Rattle.framehop_dwarf.proofs.index.fill.Given as goal

abbrev pub invariant-loop-place : goal.invariant-loop-place
invariant-loop-place l = record {
  filled : IsFilledTo l.tree.items (map pair_of_key l.keys) l.half l._place;
  level : IsLevel l.half l.width l.step l.within l._place;
}
