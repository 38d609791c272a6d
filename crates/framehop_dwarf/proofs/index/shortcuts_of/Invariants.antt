use Rattle.std.proofs.Common.{◌-◌, ◌^◌}
use Rattle.framehop_dwarf.proofs.Shortcuts.{AreSoFar}
use Rattle.framehop_dwarf.proofs.index.shortcuts_of.Given as goal

abbrev pub invariant-loop-block : goal.invariant-loop-block
invariant-loop-block l = AreSoFar l.tree l.shift l.last_start (2 ^ 32 - 1) l.block l.before l.places.items
