-- The room of a context.
use Rattle.std.specs.Prelude.{ℕ, ◌≤◌, Bool, true, false, Option, Some, None}
use Rattle.framehop_cfi.specs.Row.{Row}
use Rattle.framehop_cfi.specs.declared.storage.StorageLimits.{StorageLimits}

-- the row that the CIE left, once its instructions have been run
abbrev pub initial_of : Bool → Row → Option Row
initial_of false row = None
initial_of true row = Some row

-- the remembered rows are among those that there are, and, with limits, there are all that may be remembered
abbrev pub AllRowsThere : Option StorageLimits → ℕ → Type 0
AllRowsThere None room = Unit {0}
AllRowsThere (Some limits) room = limits.rows ≤ room

pub record HasSpareRows (limits : Option StorageLimits) (count room : ℕ) : Type 0 where
  pub remembered : count ≤ room
  pub all_there : AllRowsThere limits room
