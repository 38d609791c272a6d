use Rattle.std.proofs.Common.{◌≡◌, drop}
use Rattle.framehop_lent.specs.Window.{told_in}
use Rattle.framehop_lent.proofs.window.told.Given as goal

abbrev pub invariant-loop-window : goal.invariant-loop-window
invariant-loop-window l = told_in l.windows l.address ≡ told_in (drop l.window-index l.windows) l.address
