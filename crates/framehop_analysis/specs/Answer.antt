-- What a function returns that finds at most one thing, and what a rule does.
use Rattle.std.specs.Prelude.{◌≡◌, ◌⊎◌, ℕ, Bool, Option, MatchOption}
use Rattle.framehop_core.specs.Memory.{Memory}
use Rattle.framehop_core.specs.Outcome.{Outcome, answered}

-- the value that meets a fact, which no other value meets, or none where no value meets it
abbrev pub IsOnly : {A : Type 0} → (A → Type 0) → Option A → Type 0
IsOnly {A} P found = MatchOption found ((x : A) → P x → ⊥) (λ value. P value × ((x : A) → P x → x ≡ value))

-- the only value that meets a fact, or none where no value does, with the proof of it
abbrev pub Decided : {A : Type 0} → (A → Type 0) → Type 0
Decided {A} P = (found : Option A) × IsOnly P found

-- the value meets the first fact or, where no value does, the second
abbrev pub FirstOf : {A : Type 0} → (A → Type 0) → (A → Type 0) → A → Type 0
FirstOf {A} P Q value = P value ⊎ (((x : A) → P x → ⊥) × Q value)

-- The rule does what code does: wherever it answers an address, in a first frame (`true`) or another, the code leads
-- from the registers over the memory to the address and the new registers.
abbrev pub Does : {Rule Regs : Type 0} → (Rule → Bool → Regs → Memory → Outcome Regs)
    → (Bool → Regs → Memory → ℕ → Regs → Type 0) → Rule → Type 0
Does {Rule} {Regs} outcome leads rule =
    (first : Bool) (r new : Regs) (memory : Memory) (address : ℕ)
    → outcome rule first r memory ≡ answered address new → leads first r memory address new
