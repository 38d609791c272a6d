-- Setting the registers that a row names, from the last one on.
use Rattle.std.proofs.Common.{◌≡◌, ◌≢◌, ℕ, ◌<◌, ◌∷◌, false, List, length, Option, refl, ap, sym, ◌∙◌, arith, inl, inr, ◌==◌, ◌≤◌, ◌-◌, ◌+◌}
use Rattle.std.proofs.lemmas.Bool.{cases_Bool}
use Rattle.std.proofs.lemmas.Bool.Decides.{nat_tests}
use Rattle.std.proofs.lemmas.List.{drop_more}
use Rattle.std.specs.Prelude.{nat_lt, drop, get_or}
use Rattle.framehop_cfi.specs.Row.{rule_of}
use Rattle.framehop_cfi.specs.declared.rule.Register.{Register}
use Rattle.framehop_cfi.specs.declared.rule.RegisterRule.{RegisterRule}
use Rattle.framehop_callers.specs.Caller.{HasColumns}
use Rattle.framehop_callers.specs.RegisterFile.{word_of, with_word}
use Rattle.framehop_callers.specs.Rules.{Source, value_by, column_by}
use Rattle.framehop_callers.specs.declared.convention.Convention.{Convention}
use Rattle.framehop_callers.proofs.Columns.{set-here, set-elsewhere, keeps-length}

-- the columns by some of the rules
abbrev pub named_by : Convention → Source → ℕ → List (Register × RegisterRule) → ℕ → Option ℕ
named_by convention source cfa rules column =
    column_by convention source cfa column (rule_of rules (record { 0 = column }))

-- a register without a column changes nothing
beyond : (words : List (Option ℕ)) (k : ℕ) (word : Option ℕ) → nat_lt k 33 ≡ false
    → with_word words (record { 0 = k }) word ≡ words
beyond words k word no_column = rw no_column refl

pub long-named : (words : List (Option ℕ)) (register : Register) (word : Option ℕ) → length words ≡ 33
    → length (with_word words register word) ≡ 33
long-named words register word long =
    elim (cases_Bool (nat_lt register.0 33)) as (λ _. length (with_word words register word) ≡ 33) [
      | inl column ↦ keeps-length words register.0 word long (grind (arith, nat_tests))
      | inr no_column ↦ ap length (beyond words register.0 word no_column) ∙ long
    ]

-- another register's column stays
pub named-elsewhere : (words : List (Option ℕ)) (register : Register) (k : ℕ) (word : Option ℕ) → k ≢ register.0
    → word_of (with_word words register word) (record { 0 = k }) ≡ word_of words (record { 0 = k })
named-elsewhere words register k word apart =
    elim (cases_Bool (nat_lt register.0 33)) as (λ _. word_of (with_word words register word) (record { 0 = k }) ≡ word_of words (record { 0 = k })) [
      | inl column ↦ set-elsewhere words register.0 k word (grind (arith, nat_tests)) apart
      | inr no_column ↦ ap (λ set. word_of set (record { 0 = k })) (beyond words register.0 word no_column)
    ]

-- one more rule: it is that of its register, whatever those after it say
pub one-named : (convention : Convention) (source : Source) (cfa : ℕ) (entry : Register × RegisterRule)
    (rules : List (Register × RegisterRule)) (words : List (Option ℕ)) → length words ≡ 33
    → HasColumns (named_by convention source cfa rules) words
    → HasColumns (named_by convention source cfa (entry ∷ rules))
    (with_word words entry.0 (value_by source cfa (word_of source.words entry.0) entry.1))
one-named convention source cfa entry rules words long has k below =
    let word : Option ℕ = value_by source cfa (word_of source.words entry.0) entry.1 in
    elim (cases_Bool (entry.0.0 == k)) as (λ _. word_of (with_word words entry.0 word) (record { 0 = k }) ≡ named_by convention source cfa (entry ∷ rules) k) [
      | inl here ↦
          let same : k ≡ entry.0.0 = grind (arith, nat_tests) in
          rw here
          (ap (λ i. word_of (with_word words entry.0 word) (record { 0 = i })) same
          ∙ set-here words entry.0.0 word long (rw same at below)
          ∙ ap (λ i. value_by source cfa (word_of source.words (record { 0 = i })) entry.1) (sym same))
      | inr elsewhere ↦
          let apart : k ≢ entry.0.0 = λ same. grind (arith, nat_tests) in
          rw elsewhere (named-elsewhere words entry.0 k word apart ∙ has k below)
    ]

-- the rule before those that are set already
pub one-before : (convention : Convention) (source : Source) (cfa : ℕ) (default : Register × RegisterRule)
    (rules : List (Register × RegisterRule)) (left : ℕ) (words : List (Option ℕ)) → 0 < left → left ≤ length rules
    → length words ≡ 33 → HasColumns (named_by convention source cfa (drop left rules)) words
    → HasColumns (named_by convention source cfa (drop (left - 1) rules))
    (with_word words (get_or rules (left - 1) default).0
    (value_by source cfa (word_of source.words (get_or rules (left - 1) default).0) (get_or rules (left - 1) default).1))
one-before convention source cfa default rules left words some within long has =
    let entry : Register × RegisterRule = get_or rules (left - 1) default in
    let after : left - 1 + 1 ≡ left = omega arith in
    let split : drop (left - 1) rules ≡ entry ∷ drop left rules =
    drop_more rules (left - 1) default (omega arith) ∙ ap (λ n. entry ∷ drop n rules) after in
    rw split (one-named convention source cfa entry (drop left rules) words long has)
