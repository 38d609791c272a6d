-- What the unwind data of a module gives for an address.
-- (framehop 0.16.0, `UnwindResult`.)
use Rattle.std.specs.Prelude.{ℕ, Option, Some, None, Result, Ok, Err}
use Rattle.framehop_core.specs.Memory.{Memory}

-- a rule, or values that are computed from registers and memory: a return address and the caller's registers, or none
-- where they can't be had
pub data Fresh (Rule Regs : Type 0) : Type 0 where
  by_rule : Rule → Fresh Rule Regs
  direct : (Regs → Memory → Option (ℕ × Regs)) → Fresh Rule Regs

-- values, if there are any
abbrev pub values_of : {A E : Type 0} → Result A E → Option A
values_of (Ok values) = Some values
values_of (Err error) = None

-- what a reader finds: nothing where the bytes are refused, else a rule, or (`None`) values
abbrev pub fresh_of : {Rule Regs E : Type 0} → Result (Option Rule) E → (Regs → Memory → Result (ℕ × Regs) E)
    → Option (Fresh Rule Regs)
fresh_of (Err error) compute = None
fresh_of (Ok (Some rule)) compute = Some (by_rule rule)
fresh_of (Ok None) compute = Some (direct (λ regs memory. values_of (compute regs memory)))
