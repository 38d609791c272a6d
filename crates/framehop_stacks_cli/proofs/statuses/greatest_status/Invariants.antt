use Rattle.std.proofs.Common.{ℕ, length, max}
use Rattle.framehop_stacks_cli.specs.Statuses.{IsGreatestOf}
use Rattle.framehop_stacks_cli.proofs.statuses.greatest_status.Given as goal

-- the greatest so far and that of the items that are left are that of all
abbrev pub invariant-loop-item : goal.invariant-loop-item
invariant-loop-item g l =
    goal.F-IsAlwaysCallable g l.status_of
    × ((others : ℕ) → IsGreatestOf g.F.FnMut l.status_of l.rest others → IsGreatestOf g.F.FnMut l.fn.status_of l.fn.items (max l.greatest others))

abbrev pub decreases-loop-item : goal.decreases-loop-item
decreases-loop-item g l = length l.rest
