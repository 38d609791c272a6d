-- Fields of a number, by their bits.
use Rattle.std.specs.Prelude.{ℕ, ◌/◌, ◌%◌, ◌^◌}

-- so many bits of a word, from a lowest one on
abbrev pub bits_at : ℕ → ℕ → ℕ → ℕ
bits_at word low count = word / 2 ^ low % 2 ^ count
