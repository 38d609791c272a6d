-- Where no instruction needs room, the row has no rule.
use Rattle.std.proofs.Common.{◌≡◌, ℕ, zero, suc, ◌+◌, ◌<◌, Bool, true, false, ◌||◌, [], length, Option, Result, Ok, Err, refl, ap, subst, arith, inl, inr}
use Rattle.std.proofs.lemmas.Bool.{cases_Bool, cases_lt, lt-leb, le-leb, or_parts}
use Rattle.framehop_cfi.specs.Instruction.{instruction_at}
use Rattle.framehop_cfi.specs.TableRows.{TableRows, effect, cfa_register, cfa_offset}
use Rattle.framehop_cfi.specs.RowAt.{InstructionList, run, run_from, location_after, is_beyond, start}
use Rattle.framehop_cfi.specs.RowRoom.{needs_room, one_needs_room, list_needs_room}
use Rattle.framehop_cfi.specs.declared.storage.StorageLimits.{StorageLimits}
use Rattle.framehop_cfi.specs.declared.instruction.CallFrameInstruction.{CallFrameInstruction}
use Rattle.framehop_cfi.specs.declared.instruction.CallFrameInstruction.TheVariants.{
  Nop,
  NegateRaState,
  ArgsSize,
  SetLoc,
  AdvanceLoc,
  SetRule,
  Restore,
  RememberState,
  RestoreState,
  DefCfa,
  DefCfaRegister,
  DefCfaOffset,
}
use Rattle.framehop_cfi.specs.declared.read_error.ReadError.{ReadError}
use Rattle.framehop_cfi.proofs.RowMeaning.{same}
use Rattle.framehop_cfi.proofs.Extents.{bind_ok}
use Rattle.framehop_cfi.proofs.Run.{IsIn}

-- no register has a rule, and no row is remembered
record IsBare (rows : TableRows) : Type 0 where
  rules : rows.row.rules ≡ []
  remembered : rows.remembered ≡ []

module _ (limits : Option StorageLimits) where
  as-before : (rows after : TableRows) → IsBare rows → rows ≡ after → IsBare after
  as-before rows after bare is = subst IsBare is bare

  restored : (rows after : TableRows) → IsBare rows → effect limits RestoreState rows ≡ Ok after → IsBare after
  restored rows after bare is = let none = rw bare.remembered at is in cc

  bare-stays : (instruction : CallFrameInstruction) (rows after : TableRows) → needs_room instruction ≡ false → IsBare rows → effect limits instruction rows ≡ Ok after → IsBare after
  bare-stays Nop rows after none bare is = as-before rows after bare (same rows after is)
  bare-stays NegateRaState rows after none bare is = as-before rows after bare (same rows after is)
  bare-stays (ArgsSize size) rows after none bare is = as-before rows after bare (same rows after is)
  bare-stays (SetLoc address) rows after none bare is = as-before rows after bare (same rows after is)
  bare-stays (AdvanceLoc delta) rows after none bare is = as-before rows after bare (same rows after is)
  bare-stays (SetRule register rule) rows after none bare is = cc
  bare-stays (Restore register) rows after none bare is = cc
  bare-stays RememberState rows after none bare is = cc
  bare-stays RestoreState rows after none bare is = restored rows after bare is
  bare-stays (DefCfa cfa) rows after none bare is = as-before _ after (record { rules = bare.rules; remembered = bare.remembered }) (same _ after is)
  bare-stays (DefCfaRegister register) rows after none bare is =
      let cfa = bind_ok (cfa_register register rows.row.cfa) _ after is in
      as-before _ after (record { rules = bare.rules; remembered = bare.remembered }) (same _ after cfa.2)
  bare-stays (DefCfaOffset offset) rows after none bare is =
      let cfa = bind_ok (cfa_offset offset rows.row.cfa) _ after is in
      as-before _ after (record { rules = bare.rules; remembered = bare.remembered }) (same _ after cfa.2)

  -- an instruction that needs no room remembers no row
  pub none-stays : (instruction : CallFrameInstruction) (rows after : TableRows) → needs_room instruction ≡ false → rows.remembered ≡ [] → effect limits instruction rows ≡ Ok after → after.remembered ≡ []
  none-stays Nop rows after needless none is = rw (← same rows after is) none
  none-stays NegateRaState rows after needless none is = rw (← same rows after is) none
  none-stays (ArgsSize size) rows after needless none is = rw (← same rows after is) none
  none-stays (SetLoc address) rows after needless none is = rw (← same rows after is) none
  none-stays (AdvanceLoc delta) rows after needless none is = rw (← same rows after is) none
  none-stays (SetRule register rule) rows after needless none is = cc
  none-stays (Restore register) rows after needless none is = cc
  none-stays RememberState rows after needless none is = cc
  none-stays RestoreState rows after needless none is = let e = rw none at is in cc
  none-stays (DefCfa cfa) rows after needless none is = rw (← same _ after is) none
  none-stays (DefCfaRegister register) rows after needless none is =
      let cfa = bind_ok (cfa_register register rows.row.cfa) _ after is in rw (← same _ after cfa.2) none
  none-stays (DefCfaOffset offset) rows after needless none is =
      let cfa = bind_ok (cfa_offset offset rows.row.cfa) _ after is in rw (← same _ after cfa.2) none

-- what holds, or else where it does not
pub needed-or : (needed : Bool) → (needed ≡ false → needed ≡ true) → needed ≡ true
needed-or true else-true = refl
needed-or false else-true = else-true refl

-- an error is the same in the place of any value
pub error-same : {A B : Type 0} (x y : ReadError) → ◌≡◌ {A = Result A ReadError} (Err x) (Err y)
    → ◌≡◌ {A = Result B ReadError} (Err x) (Err y)
error-same x y is = let e : x ≡ y = cc in ap (λ error. Err error) e

-- what no place of a list needs, none of its places does
pub needless : (here whole : Bool) → (here ≡ true → whole ≡ true) → whole ≡ false → here ≡ false
needless true whole needs none = let e = needs refl in cc
needless false whole needs none = refl

module _ (code : InstructionList) where
  run-bare : (limits : Option StorageLimits) (n at location : ℕ) (rows after : TableRows) → IsBare rows
      → one_needs_room code n at location ≡ false → run limits code n at location rows ≡ Ok after → IsBare after
  run-bare limits zero at location rows after bare none is = as-before limits rows after bare (same rows after is)
  run-bare limits (suc n) at location rows after bare none is =
      elim (cases_lt at (length code.bytes)) [
        | inl inside ↦
            let e = rw (lt-leb (length code.bytes) at inside) at is in
            let f = rw (lt-leb (length code.bytes) at inside) at none in
            let read = bind_ok (instruction_at code.cie code.bases code.bytes at) _ after e in
            let moved = bind_ok (location_after code.cie code.address location read.0.0) _ after read.2 in
            let g = rw moved.1 at (rw read.1 at f) in
            elim (cases_Bool (is_beyond code.address moved.0)) [
              | inl beyond ↦ as-before limits rows after bare (same rows after (rw beyond at moved.2))
              | inr near ↦
                  let done = bind_ok (effect limits read.0.0 rows) _ after (rw near at moved.2) in
                  let parts = or_parts (needs_room read.0.0) (one_needs_room code n read.0.1 moved.0) (rw near at g) in
                  run-bare limits n read.0.1 moved.0 done.0 after (bare-stays limits read.0.0 rows done.0 parts.0 bare done.1) parts.1 done.2
            ]
        | inr past ↦ as-before limits rows after bare (same rows after (rw (le-leb (length code.bytes) at past) at is))
      ]

  -- the row of a list that begins with nothing has a rule only where an instruction needs room
  pub rules-need : (limits : Option StorageLimits) (at location : ℕ) (after : TableRows)
      → run_from limits code at location start ≡ Ok after → 0 < length after.row.rules
      → list_needs_room code at location ≡ true
  unfolding run_from list_needs_room
  rules-need limits at location after is some =
      elim (cases_Bool (one_needs_room code (suc (length code.bytes)) at location)) [
        | inl needs ↦ needs
        | inr none ↦
            let bare = run-bare limits (suc (length code.bytes)) at location start after (record { rules = refl; remembered = refl }) none is in
            let many = rw bare.rules at some in
            absurd (omega (arith, many))
      ]

  -- a list that begins with nothing remembers a row only where an instruction needs room
  pub rows-need : (limits : Option StorageLimits) (at location : ℕ) (after : TableRows)
      → run_from limits code at location start ≡ Ok after → list_needs_room code at location ≡ false
      → after.remembered ≡ []
  unfolding run_from list_needs_room
  rows-need limits at location after is none =
      (run-bare limits (suc (length code.bytes)) at location start after (record { rules = refl; remembered = refl }) none is).remembered

  -- an instruction at the place needs room
  pub needs-here : (n at location moved : ℕ) (read : CallFrameInstruction × ℕ) → IsIn code n at
      → instruction_at code.cie code.bases code.bytes at ≡ Ok read
      → location_after code.cie code.address location read.0 ≡ Ok moved → is_beyond code.address moved ≡ false
      → needs_room read.0 ≡ true → one_needs_room code n at location ≡ true
  needs-here zero at location moved read inside is moves near needs = absurd (omega arith)
  needs-here (suc n) at location moved read inside is moves near needs =
      rw (lt-leb (length code.bytes) at inside.1, is) (rw moves (rw (near, needs) refl))

  or-true : (a : Bool) → (a || true) ≡ true
  or-true true = refl
  or-true false = refl

  -- one after it does
  needs-later : (n at location moved : ℕ) (read : CallFrameInstruction × ℕ) → at < length code.bytes
      → instruction_at code.cie code.bases code.bytes at ≡ Ok read
      → location_after code.cie code.address location read.0 ≡ Ok moved → is_beyond code.address moved ≡ false
      → one_needs_room code n read.1 moved ≡ true → one_needs_room code (suc n) at location ≡ true
  needs-later n at location moved read inside is moves near needs =
      rw (lt-leb (length code.bytes) at inside, is) (rw moves (rw (near, needs) (or-true (needs_room read.0))))

  -- what is left of a list after one of its instructions needs room only where the whole does
  pub needs-on : (n at location moved : ℕ) (read : CallFrameInstruction × ℕ) (needed : Bool) → IsIn code n at
      → instruction_at code.cie code.bases code.bytes at ≡ Ok read
      → location_after code.cie code.address location read.0 ≡ Ok moved → is_beyond code.address moved ≡ false
      → at < read.1 → (one_needs_room code n at location ≡ true → needed ≡ true)
      → (m : ℕ) × (length code.bytes < m + read.1) × (one_needs_room code m read.1 moved ≡ true → needed ≡ true)
  needs-on zero at location moved read needed inside is moves near further needs = absurd (omega arith)
  needs-on (suc n) at location moved read needed inside is moves near further needs =
      (n, omega arith, λ later. needs (needs-later n at location moved read inside.1 is moves near later))

  -- what is known of a list at one of its instructions is known after it
  pub one-on : (limits : Option StorageLimits) (n at location moved : ℕ) (rows after : TableRows)
      (read : CallFrameInstruction × ℕ) (whole : Result TableRows ReadError) (needed : Bool) → IsIn code n at
      → instruction_at code.cie code.bases code.bytes at ≡ Ok read
      → location_after code.cie code.address location read.0 ≡ Ok moved → is_beyond code.address moved ≡ false
      → effect limits read.0 rows ≡ Ok after → at < read.1 → run limits code n at location rows ≡ whole
      → (one_needs_room code n at location ≡ true → needed ≡ true) → (m : ℕ) × (length code.bytes < m + read.1)
      × (run limits code m read.1 moved after ≡ whole) × (one_needs_room code m read.1 moved ≡ true → needed ≡ true)
  one-on limits zero at location moved rows after read whole needed inside is moves near does further runs needs = absurd (omega arith)
  one-on limits (suc n) at location moved rows after read whole needed inside is moves near does further runs needs =
      let e = rw does at (rw near at (rw moves at (rw (lt-leb (length code.bytes) at inside.1, is) at runs))) in
      (n, omega arith, e, λ later. needs (needs-later n at location moved read inside.1 is moves near later))
