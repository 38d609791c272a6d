-- What objects are, as clauses speak of them: counters, and how calls change the modules of an unwinder.
use Rattle.std.specs.Prelude.{◌≡◌, ◌≢◌, ⊤, ℕ, ◌+◌, ◌-◌, ◌^◌, ◌<◌, ℤ, Bool, true, false, Option, Some, None}
use Rattle.framehop.specs.Modules.{ModuleView, UnwinderView, with_module, without_module, has_start}
use Rattle.framehop.specs.Policy.{Policy, with_allocation, without_allocation}
use Rattle.framehop_c.specs.Status.{ok, generations_exhausted}
use Rattle.framehop_c.specs.declared.object.Object.{Object}
use Rattle.framehop_c.specs.declared.object.Object.TheVariants.{Generations}

-- the next generation of a counter
abbrev pub generations_in : Object → Option ℕ
generations_in (Generations next) = Some next
generations_in _ = None

-- what holds of a counter before and after a call
abbrev pub ForGenerations : Object → Object → (ℕ → ℕ → Type 0) → Type 0
ForGenerations (Generations old) (Generations new) holds = holds old new
ForGenerations (Generations old) _ holds = ⊥
ForGenerations _ _ holds = ⊤

-- a generation was drawn, unless the counter is at its end
pub record IsDrawn (status : ℤ) (before after : ℕ) : Type 0 where
  pub exhausted : status ≡ generations_exhausted → (before ≡ 2 ^ 64 - 1) × (after ≡ before)
  pub drawn : status ≢ generations_exhausted → (before < 2 ^ 64 - 1) × (after ≡ before + 1)

-- the policy that C asks for
abbrev pub policy_for : Bool → Policy
policy_for true = with_allocation
policy_for false = without_allocation

-- a module was added where the call says so, and its generation drawn; else nothing has changed
pub record IsAddition (added : ModuleView) (status : ℤ) (old new : UnwinderView) (before after : ℕ) : Type 0 where
  pub done : status ≡ ok → (new ≡ record { modules = with_module added old.modules; generation = before })
      × (after ≡ before + 1) × (before < 2 ^ 64 - 1)
  pub refused : status ≢ ok → (new ≡ old) × (after ≡ before)
  pub exhausted : status ≡ generations_exhausted → before ≡ 2 ^ 64 - 1

-- The newest module of a start was removed, if there is one, and a generation drawn. The counter's end is the only
-- refusal, and changes nothing.
pub record IsRemoval (start : ℕ) (status : ℤ) (old new : UnwinderView) (before after : ℕ) : Type 0 where
  pub absent : has_start start old.modules ≡ false → (status ≡ ok) × (new ≡ old) × (after ≡ before)
  pub done : has_start start old.modules ≡ true → status ≡ ok → (before < 2 ^ 64 - 1)
      × (new ≡ record { modules = without_module start old.modules; generation = before }) × (after ≡ before + 1)
  pub refused : status ≢ ok → (status ≡ generations_exhausted) × (before ≡ 2 ^ 64 - 1) × (new ≡ old) × (after ≡ before)
