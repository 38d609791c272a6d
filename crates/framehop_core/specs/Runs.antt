-- Rules one after another: each starts from the registers that the one before it leaves.
use Rattle.std.specs.Prelude.{◌≡◌, ℕ, zero, suc, ◌+◌, ◌-◌, ◌<◌, ◌≤◌, Bool, true, false, List, [], ◌∷◌}
use Rattle.framehop_core.specs.Memory.{Memory}
use Rattle.framehop_core.specs.Outcome.{Outcome, answered, root, refused, registers_after}
use Rattle.framehop_core.specs.declared.unwind_rule.RunEnd.{RunEnd}
use Rattle.framehop_core.specs.declared.unwind_rule.RunEnd.TheVariants.{All, Root, Refused}

-- how many rules have answered an address, why the run ended, and the registers that it leaves
pub record Run (R : Type 0) : Type 0 where
  pub count : ℕ
  pub end : RunEnd
  pub registers : R

-- the run with so many answers before it
abbrev pub later : {R : Type 0} → ℕ → Run R → Run R
later n run = record { count = n + run.count; end = run.end; registers = run.registers }

-- one rule's outcome, and the run that follows where it answers an address
abbrev pub run_on : {R : Type 0} → R → Outcome R → (R → Run R) → Run R
run_on old (answered _ new) next = later 1 (next new)
run_on old root next = record { count = 0; end = Root; registers = old }
run_on old (refused error) next = record { count = 0; end = Refused error; registers = old }

module _ {U R : Type 0} (outcome : U → Bool → R → Memory → Outcome R) where
  -- the run of rules over registers and memory, of which only the first can be a first frame's
  abbrev pub run_of : Bool → List U → R → Memory → Run R
  run_of first [] r memory = record { count = 0; end = All; registers = r }
  run_of first (rule ∷ rules) r memory =
      run_on r (outcome rule first r memory) (λ new. run_of false rules new memory)

  -- the registers after the first rule
  abbrev pub after_first : List U → R → Memory → R
  after_first [] r memory = r
  after_first (rule ∷ rules) r memory = registers_after r (outcome rule true r memory)

-- so many of these rules, from the first one on, lead by a relation from these registers to those; the first one in
-- a frame of this kind, the others in frames that are not the first
abbrev pub StepsBy : {U R : Type 0} → (U → Bool → R → R → Type 0) → Bool → List U → ℕ → R → R → Type 0
StepsBy advances first rules zero old new = old ≡ new
StepsBy advances first [] (suc n) old new = ⊥
StepsBy {U} {R} advances first (rule ∷ rules) (suc n) old new =
    (next : R) × advances rule first old next × StepsBy advances false rules n next new

-- Over one memory: a step that answers leads to registers of a kind, and from such, in a frame that is not the first,
-- the next one raises the stack pointer.
pub record Raises {U R : Type 0} (outcome : U → Bool → R → Memory → Outcome R) (stack_pointer : R → ℕ)
    (IsAfterStep : Memory → R → Type 0) : Type 0 where
  pub leads : (rule : U) (first : Bool) (old new : R) (memory : Memory) (address : ℕ)
      → outcome rule first old memory ≡ answered address new → IsAfterStep memory new
  pub rises : (rule : U) (old new : R) (memory : Memory) (address : ℕ) → IsAfterStep memory old
      → outcome rule false old memory ≡ answered address new → stack_pointer old < stack_pointer new

-- of so many answered steps each after the first has raised the stack pointer, which was here after the first
abbrev pub IsCountWithinRise : ℕ → ℕ → ℕ → Type 0
IsCountWithinRise count first last = count - 1 ≤ last - first
