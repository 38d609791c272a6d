-- What an allocation policy lets unwinding use (framehop 0.16.0, `AllocationPolicy`).
use Rattle.std.specs.Prelude.{◌≡◌, ◌≢◌, ℕ, Bool, true, false, Option, Some, None}
use Rattle.framehop_cfi.specs.declared.storage.StorageLimits.{StorageLimits}

-- whether a step may take memory, the most that a row and the remembered rows hold, and the most values on the stack of
-- an expression; without a limit they grow in memory
pub record Policy : Type 0 where
  pub may_allocate : Bool
  pub rows : Option StorageLimits
  pub values : Option ℕ

-- without memory there are limits
pub record IsLimited (policy : Policy) : Type 0 where
  pub rows : policy.may_allocate ≡ false → policy.rows ≢ None
  pub values : policy.may_allocate ≡ false → policy.values ≢ None

-- 192 register rules a row, 3 remembered rows, 64 values
abbrev pub without_allocation : Policy
without_allocation = record { may_allocate = false; rows = Some (record { rules = 192; rows = 3 }); values = Some 64 }

-- no limits
abbrev pub with_allocation : Policy
with_allocation = record { may_allocate = true; rows = None; values = None }
