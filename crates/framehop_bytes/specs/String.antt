-- Strings that end with a 0 (System V gABI, chapter 4, "String Table").
use Rattle.std.specs.Prelude.{ℕ, List, drop, ◌==◌}
use Rattle.std.specs.List.{before_first}

-- the bytes before the first 0, or all where there is none
abbrev pub before_nul : List ℕ → List ℕ
before_nul bytes = before_first (λ byte. byte == 0) bytes

-- the string of a table of strings that begins at an offset of it
abbrev pub string_of : List ℕ → ℕ → List ℕ
string_of table at = before_nul (drop at table)
