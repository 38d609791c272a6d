-- What is told of a frame decides what becomes of it.
use Rattle.std.specs.Prelude.{◌≡◌, ℕ, Bool, Option, Some, None, Result}
use Rattle.framehop_core.specs.Memory.{Memory}
use Rattle.framehop_core.specs.Outcome.{Outcome, answered, answer_of, registers_after}
use Rattle.framehop_core.specs.declared.error.Error.{Error}
use Rattle.framehop_explain.specs.declared.told.Told.{Told}
use Rattle.framehop_explain.specs.declared.told.Told.TheVariants.{Rule, Computed, Refused}

-- By what rules do to a frame: a rule has its outcome, and a computed return address is answered; where nothing is told
-- or no module covers the address, the fallback rule has the unchanged registers.
abbrev pub IsOutcomeBy : {R S : Type 0} → (R → Bool → S → Memory → Outcome S) → R → Bool → S → Memory
    → Option (Told R) → Outcome S → Type 0
IsOutcomeBy rules fallback first regs memory None outcome = outcome ≡ rules fallback first regs memory
IsOutcomeBy rules fallback first regs memory (Some (Rule rule)) outcome = outcome ≡ rules rule first regs memory
IsOutcomeBy {R} {S} rules fallback first regs memory (Some (Computed address)) outcome =
    (new : S) × (outcome ≡ answered address new)
IsOutcomeBy rules fallback first regs memory (Some (Refused error)) outcome =
    outcome ≡ rules fallback first regs memory

-- a call has such an outcome: what it returned, and the registers after it
abbrev pub IsDecidedBy : {R S : Type 0} → (R → Bool → S → Memory → Outcome S) → R → Bool → S → Memory
    → Option (Told R) → Result (Option ℕ) Error → S → Type 0
IsDecidedBy {R} {S} rules fallback first regs memory told answer new =
    (outcome : Outcome S) × IsOutcomeBy rules fallback first regs memory told outcome
    × (answer ≡ answer_of outcome) × (new ≡ registers_after regs outcome)
