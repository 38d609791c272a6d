-- Negative numbers as a reader writes them.
use Rattle.std.specs.Prelude.{ℕ, ℤ, pos, ◌-ℤ◌}

-- `minus 8` is -8
abbrev pub minus : ℕ → ℤ
minus number = pos 0 -ℤ pos number
