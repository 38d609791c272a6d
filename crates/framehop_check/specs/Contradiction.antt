-- What an alarm means: rows and instructions contradict each other, or a row counts from a register that was overwritten.
use Rattle.std.specs.Prelude.{◌≡◌, ℕ, ℤ, List, [], ◌∷◌, ◌++◌, Some, None}
use Rattle.framehop_code.specs.Effect.{State, Does}
use Rattle.framehop_code.specs.declared.effect.Base.{Base}
use Rattle.framehop_code.specs.declared.effect.Base.TheVariants.{Sp, Fp}
use Rattle.framehop_code.specs.declared.effect.Change.{Change}
use Rattle.framehop_code.specs.declared.effect.Change.TheVariants.{Unknown}
use Rattle.framehop_code.specs.declared.effect.Effect.{Effect}
use Rattle.framehop_code.specs.declared.effect.Flow.TheVariants.{Return}
use Rattle.framehop_check.specs.declared.claim.Claim.{Claim}
use Rattle.framehop_check.specs.declared.claim.Claim.TheVariants.{Above}
use Rattle.framehop_check.specs.declared.check.Item.{Item}
use Rattle.framehop_check.specs.declared.report.Alarm.{Alarm}
use Rattle.framehop_check.specs.declared.tracked.Fault.{Fault}
use Rattle.framehop_check.specs.declared.tracked.Fault.TheVariants.{Differs, Overwritten, Returns, Jumps}
use Rattle.framehop_check.specs.declared.check.Pass.{Pass}
use Rattle.framehop_check.specs.Check.{pass_after}
use Rattle.framehop_check.specs.Claim.{Says}
use Rattle.framehop_check.specs.Known.{known_of}
use Rattle.framehop_check.specs.Tracked.{arriving, fault_at}

-- a run through instructions one after another, from registers to registers
abbrev pub RunsThrough : List Item → State → State → Type 0
RunsThrough [] s t = s ≡ t
RunsThrough (item ∷ items) s t = (u : State) × Does item.effect s u × RunsThrough items u t

-- No CFA is where the first of these instructions' rows says it is, and after a run through all of them where another row
-- says it is.
abbrev pub NeverBoth : Item → List Item → Claim → Type 0
NeverBoth first between claim =
    (cfa : ℤ) (s t : State) → RunsThrough (first ∷ between) s t → Says first.claim cfa s → Says claim cfa t → ⊥

-- the row of an instruction contradicts the row of one before it
pub record RowContradicts (items : List Item) (address : ℕ) (base : Base) (row : ℤ) : Type 0 where
  pub early : List Item
  pub first : Item
  pub between : List Item
  pub here : Item
  pub late : List Item
  pub list : items ≡ (early ++ first ∷ between) ++ here ∷ late
  pub at : here.address ≡ address
  pub says : here.claim ≡ Above base row
  pub never : NeverBoth first between here.claim

-- the row of a jump's target contradicts the row of the jump, or of an instruction before it
pub record JumpContradicts (items : List Item) (address target : ℕ) (base : Base) (row : ℤ) : Type 0 where
  pub early : List Item
  pub first : Item
  pub between : List Item
  pub before : List Item
  pub here : Item
  pub late : List Item
  pub list : items ≡ (early ++ first ∷ between) ++ late
  pub last : early ++ first ∷ between ≡ before ++ here ∷ []
  pub at : here.address ≡ address
  pub says : here.target ≡ Some (target, Above base row)
  pub never : NeverBoth first between (Above base row)

-- A function returns where its CFA is not the entry's: no CFA is where the row of the return, or of an instruction before
-- it, says it is, and after a run up to the return so many bytes above the stack pointer as at the entry.
pub record ReturnContradicts (entry : ℤ) (items : List Item) (address : ℕ) : Type 0 where
  pub early : List Item
  pub between : List Item
  pub here : Item
  pub late : List Item
  pub list : items ≡ (early ++ between) ++ here ∷ late
  pub first : Item
  pub rest : List Item
  pub begins : between ++ here ∷ [] ≡ first ∷ rest
  pub at : here.address ≡ address
  pub returns : here.effect.flow ≡ Return
  pub never : (cfa : ℤ) (s t : State) → RunsThrough between s t → Says first.claim cfa s → Says (Above Sp entry) cfa t → ⊥

-- the change of a register
abbrev pub change_of : Effect → Base → Change
change_of e Sp = e.sp
change_of e Fp = e.fp

-- The row of an instruction says what the row of the one before it says, although that one gives the register a value that
-- is not told: whatever the CFA and the registers are before it, it can lead to registers of which the row is not true.
pub record RowIsOverwritten (items : List Item) (address : ℕ) (base : Base) (row : ℤ) : Type 0 where
  pub early : List Item
  pub last : Item
  pub here : Item
  pub late : List Item
  pub list : items ≡ early ++ last ∷ here ∷ late
  pub at : here.address ≡ address
  pub said : last.claim ≡ Above base row
  pub says : here.claim ≡ Above base row
  pub untold : change_of last.effect base ≡ Unknown
  pub may : (cfa : ℤ) (s : State) → (t : State) × Does last.effect s t × (Says here.claim cfa t → ⊥)

-- each kind of alarm
abbrev pub Means : ℤ → List Item → ℕ → Fault → Type 0
Means entry items address (Differs base row code) = RowContradicts items address base row
Means entry items address (Jumps target base row code) = JumpContradicts items address target base row
Means entry items address (Returns code) = ReturnContradicts entry items address
Means entry items address (Overwritten base row) = RowIsOverwritten items address base row

abbrev pub HasMeaning : ℤ → List Item → Alarm → Type 0
HasMeaning entry items alarm = Means entry items alarm.address alarm.fault

-- ---- rows that are told nothing of

-- what is known after items one after another
abbrev pub pass_through : Pass → List Item → Pass
pass_through pass [] = pass
pass_through pass (item ∷ items) = pass_through (pass_after pass item) items

-- the row of an instruction follows from the row of one before it: on each run between, where that one is true this one is
pub record RowFollows (before : List Item) (here : Item) : Type 0 where
  pub early : List Item
  pub first : Item
  pub between : List Item
  pub list : before ≡ early ++ first ∷ between
  pub follows : (cfa : ℤ) (s t : State) → RunsThrough (first ∷ between) s t → Says first.claim cfa s
      → Says here.claim cfa t

-- each row whose register is known from the code, and that nothing contradicts, follows from an earlier row
abbrev pub RowsFollow : Pass → List Item → Type 0
RowsFollow pass items =
    (before after : List Item) (here : Item) (base : Base) (row code : ℤ) → items ≡ before ++ here ∷ after
    → here.claim ≡ Above base row
    → known_of (arriving (pass_through pass before).tracked here.claim) base ≡ Some code
    → fault_at (pass_through pass before).tracked here.claim ≡ None → RowFollows before here
