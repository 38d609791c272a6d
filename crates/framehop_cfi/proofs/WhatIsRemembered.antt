-- The instructions that write rules, remember a row and restore one, over remembered rows that are a log or copies.
use Rattle.std.proofs.Common.{◌≡◌, ◌≢◌, ◌-◌, Bool, true, false, List, [], ◌∷◌, ◌++◌, length, take, Option, Some, None, Result, Ok, Err, OnOk, IfErr, refl, sym, ap, arith, if◌then◌else◌}
use Rattle.std.specs.Prelude.{slice_get}
use Rattle.std.proofs.lemmas.List.{length-append}
use Rattle.std.proofs.lemmas.Option.{slice_get_read}
use Rattle.std.proofs.Math.Seq.{get_or-append_seam, take-append_seam}
use Rattle.framehop_bytes.specs.Bytes.{◌>>=◌}
use Rattle.framehop_cfi.specs.Outcome.{Becomes}
use Rattle.framehop_cfi.specs.Remembered.{Remembered, remembered_rows, remembering_row}
use Rattle.framehop_cfi.specs.RememberedCopies.{CopiedView, popped_row, copied_rows, pushed, kept}
use Rattle.framehop_cfi.specs.RememberedLog.{Rules, logged_rows}
use Rattle.framehop_cfi.specs.Row.{Row, with_rule, without_rule}
use Rattle.framehop_cfi.specs.TableRows.{TableRows, with_rules, setting, restoring_to, rows_are_full, remembering, restoring_state}
use Rattle.framehop_cfi.specs.declared.read_error.ReadError.{ReadError}
use Rattle.framehop_cfi.specs.declared.read_error.ReadError.TheVariants.{OutOfMemory, TooManyRows, NothingRemembered}
use Rattle.framehop_cfi.specs.declared.remembered_log.Note.{Note}
use Rattle.framehop_cfi.specs.declared.rule.CfaRule.{CfaRule}
use Rattle.framehop_cfi.specs.declared.rule.Register.{Register}
use Rattle.framehop_cfi.specs.declared.rule.RegisterRule.{RegisterRule}
use Rattle.framehop_cfi.specs.declared.storage.StorageLimits.{StorageLimits}
use Rattle.framehop_cfi.proofs.SharedRules.{copied_rows-last, length-copied_rows, copied_rows-kept}

-- what two equal results have
abbrev value_or : {A E : Type 0} → A → Result A E → A
value_or other (Ok value) = value
value_or other (Err error) = other

abbrev error_or : {A E : Type 0} → E → Result A E → E
error_or other (Ok value) = other
error_or other (Err error) = error

abbrev row_of : CfaRule → Rules → Row
row_of cfa rules = record { cfa = cfa; rules = rules }

-- Copies, in a storage with limits.
module _ (within : StorageLimits) (log : List Note) where
  abbrev of_copies : List CopiedView → Remembered
  of_copies copies = record { log = log; copies = copies }

  push-if : {T : Type 0} (full : Bool) (result : Result T ReadError) (cfa : CfaRule) (before after : List CopiedView) (rules : Rules)
      → Becomes result after (if full then Err TooManyRows else Ok (before ++ record { cfa = cfa; rules = None } ∷ []))
      → Becomes result (copied_rows after rules) (if full then Err TooManyRows else Ok (copied_rows before rules ++ row_of cfa rules ∷ []))
  push-if true (Ok done) cfa before after rules becomes = let e : Err TooManyRows ≡ Ok after = becomes in cc
  push-if true (Err error) cfa before after rules becomes = λ other. ap Err (ap (error_or error) (becomes other))
  push-if false (Ok done) cfa before after rules becomes =
      let same : before ++ record { cfa = cfa; rules = None } ∷ [] ≡ after = ap (value_or after) becomes in
      rw (← same, copied_rows-last before (record { cfa = cfa; rules = None }) rules) refl
  push-if false (Err error) cfa before after rules becomes = λ other.
      let e : Ok (before ++ record { cfa = cfa; rules = None } ∷ []) ≡ Err error = becomes other in cc

  pub push-copies : {T : Type 0} (limits : Option StorageLimits) → limits ≡ Some within → (result : Result T ReadError)
      (cfa : CfaRule) (before after : List CopiedView) → Becomes result after (pushed limits cfa before) → (rules : Rules)
      → Becomes result (remembered_rows limits (of_copies after) rules)
      (remembering_row limits (row_of cfa rules) (remembered_rows limits (of_copies before) rules))
  push-copies limits is result cfa before after becomes rules =
      rw (is, length-copied_rows before rules)
      (push-if (rows_are_full (Some within) (length before)) result cfa before after rules (rw is at becomes))

  pub keep-copies : {T : Type 0} (limits : Option StorageLimits) → limits ≡ Some within → (result : Result T ReadError)
      (before after : List CopiedView) (old rules : Rules) → OnOk result (after ≡ kept old before)
      → OnOk result (remembered_rows limits (of_copies after) rules ≡ remembered_rows limits (of_copies before) old)
  keep-copies limits is (Ok done) before after old rules same = rw (is, same) (copied_rows-kept old rules before)
  keep-copies limits is (Err error) before after old rules same = tt

  pub keep-copies-set : {T : Type 0} (limits : Option StorageLimits) → limits ≡ Some within → (result : Result T ReadError)
      (register : Register) (before after : List CopiedView) (old : Rules) → OnOk result (after ≡ kept old before)
      → OnOk result ((rule : RegisterRule) (rules : Rules) → with_rule limits register rule old ≡ Ok rules
      → remembered_rows limits (of_copies after) rules ≡ remembered_rows limits (of_copies before) old)
  keep-copies-set limits is (Ok done) register before after old same =
      λ rule rules set. rw (is, same) (copied_rows-kept old rules before)
  keep-copies-set limits is (Err error) register before after old same = tt

  pub pop-copies : {T : Type 0} (limits : Option StorageLimits) → limits ≡ Some within → (result : Result T ReadError)
      (before after : List CopiedView) (old : Rules) (new : Row)
      → OnOk result ((latest : CopiedView) × (before ≡ after ++ latest ∷ []) × (new ≡ popped_row latest old))
      → OnOk result (remembered_rows limits (of_copies before) old ≡ remembered_rows limits (of_copies after) new.rules ++ new ∷ [])
  pop-copies limits is (Ok done) before after old new popped =
      rw (is, popped.1, popped.2) (copied_rows-last after popped.0 old)
  pop-copies limits is (Err error) before after old new popped = tt

  pub no-copies : {T : Type 0} (limits : Option StorageLimits) → limits ≡ Some within → (result : Result T ReadError)
      (before : List CopiedView) (old : Rules) → IfErr result (λ error. (error ≡ NothingRemembered) × (before ≡ []))
      → IfErr result (λ error. error ≢ OutOfMemory → (error ≡ NothingRemembered) × (remembered_rows limits (of_copies before) old ≡ []))
  no-copies limits is (Ok done) before old none = tt
  no-copies limits is (Err error) before old none = λ other. (none.0, rw (is, none.1) refl)

-- A log, in a storage without limits.
module _ (copies : List CopiedView) where
  abbrev of_log : List Note → Remembered
  of_log log = record { log = log; copies = copies }

  pub push-log : {T : Type 0} (limits : Option StorageLimits) → limits ≡ None → (result : Result T ReadError)
      (cfa : CfaRule) (before after : List Note)
      → OnOk result ((rules : Rules) → logged_rows after rules ≡ logged_rows before rules ++ row_of cfa rules ∷ [])
      → IfErr result (λ error. error ≡ OutOfMemory) → (rules : Rules)
      → Becomes result (remembered_rows limits (of_log after) rules)
      (remembering_row limits (row_of cfa rules) (remembered_rows limits (of_log before) rules))
  push-log limits is (Ok done) cfa before after remembered out rules = rw (is, remembered rules) refl
  push-log limits is (Err error) cfa before after remembered out rules = λ other. absurd (other out)

  pub keep-log : {T : Type 0} (limits : Option StorageLimits) → limits ≡ None → (result : Result T ReadError)
      (register : Register) (before after : List Note) (old : Rules)
      → OnOk result ((rule : RegisterRule) (rules : Rules) → with_rule limits register rule old ≡ Ok rules
      → logged_rows after rules ≡ logged_rows before old)
      → OnOk result ((rule : RegisterRule) (rules : Rules) → with_rule limits register rule old ≡ Ok rules
      → remembered_rows limits (of_log after) rules ≡ remembered_rows limits (of_log before) old)
  keep-log limits is (Ok done) register before after old same = λ rule rules set. rw is (same rule rules set)
  keep-log limits is (Err error) register before after old same = tt

-- What the instructions make of the rows.
module _ (limits : Option StorageLimits) (initial : Option Row) (row : Row) where
  abbrev rows_with : Row → List Row → TableRows
  rows_with new remembered = record { initial = initial; row = new; remembered = remembered }

  set-written : (new : Row) (before after : List Row) (read : Result Rules ReadError) → read ≡ Ok new.rules
      → new.cfa ≡ row.cfa → after ≡ before
      → (read >>= λ rules. Ok (with_rules (rows_with row before) rules)) ≡ Ok (rows_with new after)
  set-written new before after read ok cfa is = rw (ok, is, ← cfa) refl

  pub set-becomes : {T : Type 0} (result : Result T ReadError) (register : Register) (rule : RegisterRule) (new : Row)
      (before after : Remembered)
      → Becomes result new.rules (with_rule limits register rule row.rules) → new.cfa ≡ row.cfa
      → ((set : RegisterRule) (rules : Rules) → with_rule limits register set row.rules ≡ Ok rules
      → remembered_rows limits after rules ≡ remembered_rows limits before row.rules)
      → Becomes result (rows_with new (remembered_rows limits after new.rules))
      (setting limits register rule (rows_with row (remembered_rows limits before row.rules)))
  set-becomes (Ok done) register rule new before after becomes cfa same =
      set-written new (remembered_rows limits before row.rules) (remembered_rows limits after new.rules)
      (with_rule limits register rule row.rules) becomes cfa (same rule new.rules becomes)
  set-becomes (Err error) register rule new before after becomes cfa same = λ other. rw (becomes other) refl

  pub remove-becomes : (register : Register) (new : Row) (before after : Remembered)
      → new ≡ record row { rules = without_rule register row.rules }
      → remembered_rows limits after (without_rule register row.rules) ≡ remembered_rows limits before row.rules
      → restoring_to limits register (rows_with row (remembered_rows limits before row.rules)) None
      ≡ Ok (rows_with new (remembered_rows limits after new.rules))
  remove-becomes register new before after is same = rw (is, same) refl

  remember-if : {T : Type 0} (full : Bool) (result : Result T ReadError) (old now : List Row)
      → Becomes result now (if full then Err TooManyRows else Ok (old ++ row ∷ []))
      → Becomes result (rows_with row now) (if full then Err TooManyRows else Ok (rows_with row (old ++ row ∷ [])))
  remember-if true (Ok done) old now becomes = let e : Err TooManyRows ≡ Ok now = becomes in cc
  remember-if true (Err error) old now becomes = λ other. ap Err (ap (error_or error) (becomes other))
  remember-if false (Ok done) old now becomes = ap (λ rows. Ok (rows_with row rows)) (ap (value_or now) becomes)
  remember-if false (Err error) old now becomes = λ other.
      let e : Ok (old ++ row ∷ []) ≡ Err error = becomes other in cc

  pub push-becomes : {T : Type 0} (result : Result T ReadError) (cfa : CfaRule) (before after : List Row)
      → Becomes result after (remembering_row limits (row_of cfa row.rules) before) → cfa ≡ row.cfa
      → Becomes result (rows_with row after) (remembering limits (rows_with row before))
  push-becomes result cfa before after becomes is =
      remember-if (rows_are_full limits (length before)) result before after (rw is at becomes)

restored-last : (initial : Option Row) (row latest : Row) (earlier : List Row)
    → restoring_state (record { initial = initial; row = row; remembered = earlier ++ latest ∷ [] })
    ≡ Ok (record { initial = initial; row = latest; remembered = earlier })
restored-last initial row latest earlier =
    let n : length (earlier ++ latest ∷ []) - 1 ≡ length earlier = rw (length-append earlier (latest ∷ [])) (omega arith) in
    let here : slice_get (earlier ++ latest ∷ []) (length earlier) ≡ Some latest =
    slice_get_read (earlier ++ latest ∷ []) (length (earlier ++ latest ∷ [])) (length earlier) latest refl
    (rw (length-append earlier (latest ∷ [])) (omega arith)) (sym (get_or-append_seam earlier latest [] latest)) in
    rw (n, here) (rw (n, take-append_seam earlier (latest ∷ [])) refl)

pub pop-becomes : {T : Type 0} (result : Result T ReadError) (initial : Option Row) (row new : Row) (before after : List Row)
    → OnOk result (before ≡ after ++ new ∷ [])
    → IfErr result (λ error. error ≢ OutOfMemory → (error ≡ NothingRemembered) × (before ≡ []))
    → Becomes result (record { initial = initial; row = new; remembered = after })
    (restoring_state (record { initial = initial; row = row; remembered = before }))
pop-becomes (Ok done) initial row new before after popped none = rw popped (restored-last initial row new after)
pop-becomes (Err error) initial row new before after popped none = λ other. rw ((none other).0, (none other).1) refl
