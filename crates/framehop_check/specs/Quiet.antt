-- A function of which nothing is told: its rows are right wherever it can be stopped.
use Rattle.std.specs.Prelude.{◌≡◌, ◌⊎◌, ℕ, zero, suc, ℤ, ◌+ℤ◌, true, false, List, [], ◌∷◌, ◌++◌, Some}
use Rattle.framehop_code.specs.Effect.{State, Does, is_away}
use Rattle.framehop_code.specs.declared.effect.Base.{Base}
use Rattle.framehop_code.specs.declared.effect.Base.TheVariants.{Sp}
use Rattle.framehop_check.specs.declared.claim.Claim.{Claim}
use Rattle.framehop_check.specs.declared.claim.Claim.TheVariants.{Above}
use Rattle.framehop_check.specs.declared.check.Item.{Item}
use Rattle.framehop_check.specs.declared.check.Pass.{Pass}
use Rattle.framehop_check.specs.declared.known.Known.{Known}
use Rattle.framehop_check.specs.Check.{alarms_from}
use Rattle.framehop_check.specs.Claim.{Says}
use Rattle.framehop_check.specs.Contradiction.{pass_through}
use Rattle.framehop_check.specs.Known.{known_of, after, agreed}
use Rattle.framehop_check.specs.Tracked.{arriving, is_passed}

-- ---- runs

-- an instruction of a function, with those before it and after it
pub record Place (items : List Item) : Type 0 where
  pub before : List Item
  pub here : Item
  pub after : List Item
  pub list : items ≡ before ++ here ∷ after

-- an instruction leads to the one after it; a call returns to it
pub record Falls {items : List Item} (p q : Place items) : Type 0 where
  pub goes : is_away p.here.effect.flow ≡ false
  pub next : q.before ≡ p.before ++ p.here ∷ []

-- a jump or a branch leads to its target inside the function
pub record JumpsTo {items : List Item} (p q : Place items) : Type 0 where
  pub claim : Claim
  pub target : p.here.target ≡ Some (q.here.address, claim)

-- a run of so many instructions, from one with registers to another one with others
abbrev pub Run : {items : List Item} → ℕ → Place items → State → Place items → State → Type 0
Run zero p s q t = (p ≡ q) × (s ≡ t)
Run {items} (suc count) p s q t =
    (next : Place items) × (u : State) × (Falls p next ⊎ JumpsTo p next) × Does p.here.effect s u × Run count next u q t

-- Each row is right: where the first row is that of a function's entry, each run from there leads to a row that is true of
-- the entry's CFA.
abbrev pub AreRight : ℤ → List Item → Type 0
AreRight entry items =
    (p q : Place items) (count : ℕ) (s t : State) → p.before ≡ [] → p.here.claim ≡ Above Sp entry → Run count p s q t
    → Says q.here.claim (s.sp +ℤ entry) t

-- ---- what is believed

-- how the pass comes to an instruction
abbrev pub pass_at : {items : List Item} → Pass → Place items → Pass
pass_at first p = pass_through first p.before

-- padding that is come to from nowhere
abbrev pub IsPassed : {items : List Item} → Pass → Place items → Type 0
IsPassed first p = is_passed (pass_at first p).tracked p.here.effect ≡ true

-- what is known at an instruction before its row is read, and once it is
abbrev pub known_before : {items : List Item} → Pass → Place items → Known
known_before first p = arriving (pass_at first p).tracked p.here.claim

abbrev pub known_at : {items : List Item} → Pass → Place items → Known
known_at first p = agreed (known_before first p) p.here.claim

-- Nothing is believed: no jump leads to padding that is passed over, and the function does not begin with it; where an
-- instruction leads to the next one, of the next row's register is known how far it is from the CFA; and where a jump leads,
-- nothing is known but what is known after the jump.
pub record BelievesNothing (first : Pass) (items : List Item) : Type 0 where
  pub begins : (p : Place items) → p.before ≡ [] → IsPassed first p → ⊥
  pub falls : (p q : Place items) (base : Base) (row : ℤ) → (IsPassed first p → ⊥) → Falls p q → q.here.claim ≡ Above base row
      → (code : ℤ) × (known_of (known_before first q) base ≡ Some code)
  pub lands : (p q : Place items) → (IsPassed first p → ⊥) → JumpsTo p q → IsPassed first q → ⊥
  pub jumps : (p q : Place items) (base : Base) (offset : ℤ) → (IsPassed first p → ⊥) → JumpsTo p q
      → known_of (known_at first q) base ≡ Some offset → known_of (after (known_at first p) p.here.effect) base ≡ Some offset

-- where nothing is told and nothing believed, each row is right
abbrev pub IsQuiet : ℤ → Pass → List Item → Type 0
IsQuiet entry first items = alarms_from entry first items ≡ [] → BelievesNothing first items → AreRight entry items
