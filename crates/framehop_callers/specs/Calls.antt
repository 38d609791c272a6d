-- The calls that a run has entered and not returned from, by where on the stack their return addresses are; and the
-- return addresses of all that it has entered and not returned to.
use Rattle.std.specs.Prelude.{ℕ, Bool, true, false, not, ◌==◌, nat_lt, if◌then◌else◌, List, [], ◌∷◌, ◌++◌, length, Option, Some, None}
use Rattle.std.specs.List.{filter, list_any}

abbrev pub is_none : List ℕ → Bool
is_none [] = true
is_none (word ∷ words) = false

-- one more; eight may be open
abbrev pub opened : List ℕ → ℕ → Option (List ℕ)
opened words word = if nat_lt (length words) 8 then Some (words ++ word ∷ []) else None

-- an address is one of them
abbrev pub has : List ℕ → ℕ → Bool
has words address = list_any (λ word. word == address) words

-- one more, once
abbrev pub noted : List ℕ → ℕ → Option (List ℕ)
noted words address = if has words address then Some words else opened words address

-- the others
abbrev pub without : List ℕ → ℕ → List ℕ
without words address = filter (λ word. not (word == address)) words

-- what is left where there was room
abbrev pub left_by : Bool → List ℕ → Option (List ℕ)
left_by true words = Some words
left_by false words = None
