-- Where unwinding by a row may take memory.
use Rattle.std.proofs.Common.{◌≡◌, ℕ, Bool, true, false, ◌||◌, List, [], ◌∷◌, Option, None, refl, inl, inr}
use Rattle.std.specs.List.{list_any}
use Rattle.std.proofs.lemmas.Bool.{cases_Bool}
use Rattle.framehop_cfi.specs.Section.{Section}
use Rattle.framehop_cfi.specs.Entry.{fde_at}
use Rattle.framehop_cfi.specs.Row.{Row, rule_of, is_of}
use Rattle.framehop_cfi.specs.declared.rule.Register.{Register}
use Rattle.framehop_cfi.specs.declared.rule.RegisterRule.{RegisterRule}
use Rattle.framehop_cfi.specs.declared.storage.StorageLimits.{StorageLimits}
use Rattle.framehop_dwarf.specs.Unwinder.{by_row, reading_of}
use Rattle.framehop_dwarf.specs.MayTakeMemory.{is_cfa_expression, is_expression, is_some_expression, has_expression, needs_room_by, may_take_memory}

or_true : (a : Bool) → (a || true) ≡ true
or_true true = refl
or_true false = refl

-- a register's rule that is an expression is one of the row's
in_rules : (rules : List (Register × RegisterRule)) (register : Register) → is_some_expression (rule_of rules register) ≡ true → list_any (λ (entry : Register × RegisterRule). is_expression entry.1) rules ≡ true
in_rules [] register is = cc
in_rules (entry ∷ rules) register is =
    elim (cases_Bool (is_of register entry)) [
      | inl here ↦ rw (rw here at is) refl
      | inr later ↦ rw (in_rules rules register (rw later at is)) (or_true (is_expression entry.1))
    ]

in_row : (row : Row) (first second : Register) (cfa : Bool) → is_cfa_expression row.cfa ≡ cfa → (cfa || is_some_expression (rule_of row.rules first) || is_some_expression (rule_of row.rules second)) ≡ true → (cfa || list_any (λ (entry : Register × RegisterRule). is_expression entry.1) row.rules) ≡ true
in_row row first second true is some = refl
in_row row first second false is some =
    elim (cases_Bool (is_some_expression (rule_of row.rules first))) [
      | inl here ↦ in_rules row.rules first here
      | inr other ↦ in_rules row.rules second (rw other at some)
    ]

-- the CFA or one of two registers of a row has an expression
pub of_row : (row : Row) (first second : Register) → (is_cfa_expression row.cfa || is_some_expression (rule_of row.rules first) || is_some_expression (rule_of row.rules second)) ≡ true → has_expression row ≡ true
unfolding has_expression
of_row row first second some = in_row row first second (is_cfa_expression row.cfa) refl some

module _ (rows : Option StorageLimits) (values : Option ℕ) (section : Section) (address offset : ℕ) where
  pub by_room : rows ≡ None → needs_room_by section address (fde_at section offset) ≡ true → may_take_memory rows values section address offset ≡ true
  unfolding may_take_memory
  by_room free needs = rw (free, needs) refl

  pub by_values : (row : Row) → values ≡ None → reading_of rows section address offset ≡ by_row row → has_expression row ≡ true → may_take_memory rows values section address offset ≡ true
  unfolding may_take_memory
  by_values row free is has = rw (free, is, has) (or_true _)
