-- Whole register files, by a value for each column.
use Rattle.std.specs.Prelude.{ℕ, zero, suc, ◌+◌, List, [], ◌∷◌, Option, Some, option_map}
use Rattle.framehop_callers.specs.Convention.{program_counter_of, return_address_of}
use Rattle.framehop_callers.specs.RegisterFile.{word_of, with_word}
use Rattle.framehop_callers.specs.declared.convention.Convention.{Convention}

-- the values of so many columns from one on
abbrev pub columns_from : (ℕ → Option ℕ) → ℕ → ℕ → List (Option ℕ)
columns_from values at zero = []
columns_from values at (suc n) = values at ∷ columns_from values (at + 1) n

-- the values of all 33 columns
unfoldable pub columns_by : (ℕ → Option ℕ) → List (Option ℕ)
columns_by values = columns_from values 0 33

-- the value of a column
abbrev pub column : List (Option ℕ) → ℕ → Option ℕ
column columns at = word_of columns (record { 0 = at })

-- the columns with another value in one of them
abbrev pub with_column : List (Option ℕ) → ℕ → Option ℕ → List (Option ℕ)
with_column columns at value = with_word columns (record { 0 = at }) value

-- a caller's columns with the stripped return address as the program counter, and the return address' own column
-- stripped too
abbrev pub returned_to : Convention → (ℕ → ℕ) → ℕ → List (Option ℕ) → List (Option ℕ)
returned_to convention strip address columns =
    with_column (with_column columns (return_address_of convention)
    (option_map strip (column columns (return_address_of convention)))) (program_counter_of convention) (Some address)
