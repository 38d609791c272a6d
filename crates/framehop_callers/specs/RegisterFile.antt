-- The registers of a frame by their DWARF columns, each known or not.
use Rattle.std.specs.Prelude.{ℕ, List, Option, Some, None, slice_get, slice_set, replicate, nat_lt, if◌then◌else◌}
use Rattle.framehop_cfi.specs.declared.rule.Register.{Register}

-- no register is known
abbrev pub unknown : List (Option ℕ)
unknown = replicate 33 None

-- one register is known
abbrev pub in_column : Option (Option ℕ) → Option ℕ
in_column (Some word) = word
in_column None = None

-- the value of a register, if it is known
abbrev pub word_of : List (Option ℕ) → Register → Option ℕ
word_of words register = in_column (slice_get words register.0)

-- the registers with another value in one of them
abbrev pub with_word : List (Option ℕ) → Register → Option ℕ → List (Option ℕ)
with_word words register word = if nat_lt register.0 33 then slice_set words register.0 word else words
