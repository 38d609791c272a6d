-- What an evaluation that was cut short has answered, against what it was to do.
use Rattle.std.specs.Prelude.{◌≡◌, ℕ, List, Option, Some, None, Result, Ok, Err}
use Rattle.framehop_dwarf.specs.Evaluation.{State}
use Rattle.framehop_dwarf.specs.declared.evaluation.Refusal.{Refusal}
use Rattle.framehop_dwarf.specs.declared.evaluation.Refusal.TheVariants.{NoValue, OutOfMemory}

-- it has left what was wanted, or nothing was wanted, or memory ran out, which it does only without a limit
abbrev pub Leaves : {A B : Type 0} → Option ℕ → Result B Refusal → Option A → A → Type 0
Leaves limit (Ok done) wanted new = wanted ≡ Some new
Leaves limit (Err NoValue) wanted new = wanted ≡ None
Leaves limit (Err OutOfMemory) wanted new = limit ≡ None

-- the same for what it returns
abbrev pub Returns : {A : Type 0} → Option ℕ → Result A Refusal → Option A → Type 0
Returns limit (Ok value) wanted = wanted ≡ Some value
Returns limit (Err NoValue) wanted = wanted ≡ None
Returns limit (Err OutOfMemory) wanted = limit ≡ None

-- the same for a state, of which it returns the position and has left the stack
abbrev pub Reaches : Option ℕ → Result ℕ Refusal → Option State → List ℕ → Type 0
Reaches limit (Ok position) wanted stack = wanted ≡ Some (record { position = position; stack = stack })
Reaches limit (Err NoValue) wanted stack = wanted ≡ None
Reaches limit (Err OutOfMemory) wanted stack = limit ≡ None
