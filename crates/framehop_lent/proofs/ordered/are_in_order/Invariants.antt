use Rattle.std.proofs.Common.{◌≡◌, drop}
use Rattle.framehop_lent.specs.Window.{above, in_order}
use Rattle.framehop_lent.proofs.ordered.are_in_order.Given as goal

abbrev pub invariant-loop-window : goal.invariant-loop-window
invariant-loop-window l = in_order l.windows ≡ above l.end (drop l.window-index l.windows)
