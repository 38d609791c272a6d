-- Which events of a recording are asked for by a name or a number.
use Rattle.std.specs.Prelude.{ℕ, ◌+◌, nat_eq, nat_lt, length, List, [], ◌∷◌, Option, Some, None, if◌then◌else◌}
use Rattle.std.specs.Cmp.Lexicographic.{pointwise}

-- the numbers of the events that have a name, where the first one has a number
abbrev pub numbers_from : ℕ → List ℕ → List (List ℕ) → List ℕ
numbers_from number wanted [] = []
numbers_from number wanted (name ∷ names) =
    if pointwise nat_eq name wanted then number ∷ numbers_from (number + 1) wanted names
    else numbers_from (number + 1) wanted names

-- where no event has the name, a number is that of an event
abbrev pub or_number : List ℕ → ℕ → Option ℕ → List ℕ
or_number (found ∷ numbers) count number = found ∷ numbers
or_number [] count (Some number) = if nat_lt number count then number ∷ [] else []
or_number [] count None = []

-- the events that are asked for: by their name, or else by a number
abbrev pub asked_among : List (List ℕ) → List ℕ → Option ℕ → List ℕ
asked_among names wanted number = or_number (numbers_from 0 wanted names) (length names) number
