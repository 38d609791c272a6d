-- What a log of remembered rows undoes.
use Rattle.std.proofs.Common.{◌≡◌, ◌≢◌, ℕ, zero, suc, ◌-◌, ◌<◌, Bool, List, [], ◌∷◌, ◌++◌, length, get_or, take, Option, Some, None, Result, Ok, Err, refl, ap, arith, inl, inr}
use Rattle.std.specs.Prelude.{position, insert, remove, slice_set}
use Rattle.std.proofs.lemmas.Bool.{cases_Bool}
use Rattle.std.proofs.lemmas.List.{length-append, set-set, set-get_or}
use Rattle.std.proofs.Math.Seq.{take-append_seam}
use Rattle.framehop_cfi.specs.RememberedLog.{Rules, undone, rules_before, logged_rows, BeginsWithRow}
use Rattle.framehop_cfi.specs.Row.{Row, is_of, is_full, with_rule, without_rule}
use Rattle.framehop_cfi.specs.declared.read_error.ReadError.{ReadError}
use Rattle.framehop_cfi.specs.declared.remembered_log.Note.{Note}
use Rattle.framehop_cfi.specs.declared.remembered_log.Note.TheVariants.{Remembered, Changed}
use Rattle.framehop_cfi.specs.declared.row.RuleChange.{RuleChange}
use Rattle.framehop_cfi.specs.declared.row.RuleChange.TheVariants.{Set, Added, Removed}
use Rattle.framehop_cfi.specs.declared.rule.CfaRule.{CfaRule}
use Rattle.framehop_cfi.specs.declared.rule.Register.{Register}
use Rattle.framehop_cfi.specs.declared.rule.RegisterRule.{RegisterRule}
use Rattle.framehop_cfi.specs.declared.storage.StorageLimits.{StorageLimits}

-- by the latest note
rules_before-changed : (notes : List Note) (change : RuleChange) (rules : Rules)
    → rules_before (notes ++ Changed change ∷ []) rules ≡ rules_before notes (undone change rules)
rules_before-changed [] change rules = refl
rules_before-changed (Remembered cfa ∷ later) change rules = rules_before-changed later change rules
rules_before-changed (Changed other ∷ later) change rules = ap (undone other) (rules_before-changed later change rules)

rules_before-remembered : (notes : List Note) (cfa : CfaRule) (rules : Rules)
    → rules_before (notes ++ Remembered cfa ∷ []) rules ≡ rules_before notes rules
rules_before-remembered [] cfa rules = refl
rules_before-remembered (Remembered other ∷ later) cfa rules = rules_before-remembered later cfa rules
rules_before-remembered (Changed change ∷ later) cfa rules = ap (undone change) (rules_before-remembered later cfa rules)

pub logged_rows-changed : (notes : List Note) (change : RuleChange) (rules : Rules)
    → logged_rows (notes ++ Changed change ∷ []) rules ≡ logged_rows notes (undone change rules)
logged_rows-changed [] change rules = refl
logged_rows-changed (Remembered cfa ∷ later) change rules =
    rw (rules_before-changed later change rules, logged_rows-changed later change rules) refl
logged_rows-changed (Changed other ∷ later) change rules = logged_rows-changed later change rules

pub logged_rows-remembered : (notes : List Note) (cfa : CfaRule) (rules : Rules)
    → logged_rows (notes ++ Remembered cfa ∷ []) rules ≡ logged_rows notes rules ++ record { cfa = cfa; rules = rules } ∷ []
logged_rows-remembered [] cfa rules = refl
logged_rows-remembered (Remembered other ∷ later) cfa rules =
    rw (rules_before-remembered later cfa rules, logged_rows-remembered later cfa rules) refl
logged_rows-remembered (Changed change ∷ later) cfa rules = logged_rows-remembered later cfa rules

-- where a log begins
pub begins-more : (notes : List Note) (note : Note) → notes ≢ [] → BeginsWithRow notes → BeginsWithRow (notes ++ note ∷ [])
begins-more [] note some begins = absurd (some refl)
begins-more (Remembered cfa ∷ later) note some begins = tt
begins-more (Changed change ∷ later) note some begins = begins

pub begins-remembered : (notes : List Note) (cfa : CfaRule) → BeginsWithRow notes → BeginsWithRow (notes ++ Remembered cfa ∷ [])
begins-remembered [] cfa begins = tt
begins-remembered (Remembered other ∷ later) cfa begins = tt
begins-remembered (Changed change ∷ later) cfa begins = begins

pub begins-fewer : (notes : List Note) (note : Note) → BeginsWithRow (notes ++ note ∷ []) → BeginsWithRow notes
begins-fewer [] note begins = tt
begins-fewer (Remembered cfa ∷ later) note begins = tt
begins-fewer (Changed change ∷ later) note begins = begins

-- a change is not the first note
pub begins-some : (notes : List Note) (change : RuleChange) (rules : Rules) → BeginsWithRow (notes ++ Changed change ∷ [])
    → logged_rows notes rules ≢ []
begins-some [] change rules begins = absurd begins
begins-some (Remembered cfa ∷ later) change rules begins = λ none. cc
begins-some (Changed other ∷ later) change rules begins = absurd begins

-- what two equal results have
same : (x y : Rules) → ◌≡◌ {A = Result Rules ReadError} (Ok x) (Ok y) → x ≡ y
same x y is = cc

take-last : {X : Type 0} (xs : List X) (x : X) → take (length (xs ++ x ∷ []) - 1) (xs ++ x ∷ []) ≡ xs
take-last xs x =
    let n : length (xs ++ x ∷ []) - 1 ≡ length xs = rw (length-append xs (x ∷ [])) (omega arith) in
    rw n (take-append_seam xs (x ∷ []))

insert-removed : {X : Type 0} (xs : List X) (i : ℕ) (d : X) → i < length xs → insert (remove xs i) i (get_or xs i d) ≡ xs
insert-removed [] i d within = absurd (omega arith)
insert-removed (x ∷ xs) zero d within = refl
insert-removed (x ∷ xs) (suc i) d within = ap (λ ys. x ∷ ys) (insert-removed xs i d (omega arith))

-- A rule that is set or taken away, undone.
module _ (register : Register) (rules : Rules) where
  pub set-undone : (limits : Option StorageLimits) (rule : RegisterRule) (new : Rules) (place : ℕ) (d : Register × RegisterRule)
      → position (is_of register) rules ≡ Some place → with_rule limits register rule rules ≡ Ok new
      → undone (Set place (get_or rules place d)) new ≡ rules
  unfolding with_rule
  set-undone limits rule new place d here set =
      let found = rw here at set in
      let is = same (slice_set rules place (register, rule)) new found in
      rw (← is, set-set rules place (register, rule) (get_or rules place d)) (set-get_or rules place d)

  pub add-undone : (limits : Option StorageLimits) (rule : RegisterRule) (new : Rules)
      → position (is_of register) rules ≡ None → with_rule limits register rule rules ≡ Ok new → undone Added new ≡ rules
  unfolding with_rule
  add-undone limits rule new none set =
      let added = rw none at set in
      elim (cases_Bool (is_full limits (length rules))) [
        | inl full ↦ let e = rw full at added in cc
        | inr room ↦
            let is = same (rules ++ (register, rule) ∷ []) new (rw room at added) in
            rw (← is) (take-last rules (register, rule))
      ]

  pub removal-undone : (place : ℕ) (d : Register × RegisterRule) → position (is_of register) rules ≡ Some place
      → place < length rules → undone (Removed place (get_or rules place d)) (without_rule register rules) ≡ rules
  unfolding without_rule
  removal-undone place d here within = rw here (insert-removed rules place d within)

  pub without-none : position (is_of register) rules ≡ None → without_rule register rules ≡ rules
  unfolding without_rule
  without-none none = rw none refl
