use Rattle.std.proofs.Common.{ℕ, ◌≡◌, ◌≤◌, ◌+◌, ◌-◌, length}
use Rattle.framehop_check.specs.Sections.{padding_from, padding_size}
use Rattle.framehop_check.proofs.sections.padding_size.Given as goal

-- from here on the padding ends where that of all does
abbrev pub invariant-loop-at : goal.invariant-loop-at
invariant-loop-at g l =
    (n : ℕ) × (length l.code ≤ n + l.at)
    × (padding_from g.C.Code.instruction l.code n l.at ≡ padding_size g.C.Code.instruction l.code)

abbrev pub decreases-loop-at : goal.decreases-loop-at
decreases-loop-at g l = length l.code - l.at
