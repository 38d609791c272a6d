-- Tables: what stands in the first row that fits.
use Rattle.std.specs.Prelude.{ℕ, Bool, List, [], ◌∷◌, ◌==◌, if◌then◌else◌}

-- the entry of the first row with this code, or another one where no row has it
abbrev pub by_code : {A : Type 0} → ℕ → List (ℕ × A) → A → A
by_code code [] other = other
by_code code ((number, entry) ∷ rows) other = if code == number then entry else by_code code rows other

-- the entry of the first row whose test holds, or another one where none does
abbrev pub by_test : {A : Type 0} → List (Bool × A) → A → A
by_test [] other = other
by_test ((test, entry) ∷ rows) other = if test then entry else by_test rows other
