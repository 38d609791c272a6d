-- What unwinding by the unwind info of a PE module may return, on any architecture.
use Rattle.std.specs.Prelude.{◌≡◌, ℕ, Bool, Option, Some, None, Result, Ok, Err}
use Rattle.framehop_core.specs.Memory.{Memory}
use Rattle.framehop_core.specs.Outcome.{Outcome, answered}
use Rattle.framehop_core.specs.declared.unwind_result.UnwindResult.{UnwindResult}
use Rattle.framehop_core.specs.declared.unwind_result.UnwindResult.TheVariants.{ExecRule, Uncacheable}
use Rattle.framehop_pe.specs.declared.pe.PeUnwinderError.{PeUnwinderError}
use Rattle.framehop_pe.specs.declared.pe.PeUnwinderError.TheVariants.{MissingStackData}

-- the error of a stack that can't be read, or of an address that does not fit
abbrev pub IsMissingStackData : PeUnwinderError → Type 0
IsMissingStackData (MissingStackData _) = Unit {0}
IsMissingStackData _ = ⊥

-- Where no rule is returned: the return address and the caller's registers, or the error, are the computed ones.
abbrev pub IsComputed :
    {Rule Regs E : Type 0} → Result (ℕ × Regs) E → Result (UnwindResult Rule) E → Regs → Type 0
IsComputed computed (Ok (ExecRule _)) new = Unit {0}
IsComputed computed (Ok (Uncacheable address)) new = computed ≡ Ok (address, new)
IsComputed computed (Err error) new = computed ≡ Err error

-- Where a rule answers an address, in a frame of either kind, that and the caller's registers are the computed ones.
abbrev pub Simulates :
    {Rule Regs E : Type 0} → (Rule → Bool → Regs → Memory → Outcome Regs)
    → (Memory → Regs → Result (ℕ × Regs) E) → Rule → Type 0
Simulates {Rule} {Regs} outcome computed rule =
    (first : Bool) (old new : Regs) (memory : Memory) (address : ℕ)
    → outcome rule first old memory ≡ answered address new → computed memory old ≡ Ok (address, new)
