-- A value that a rule gives is what the rule means.
use Rattle.std.proofs.Common.{◌≡◌, ℕ, ◌^◌, Option, Some, None, ℤ, pos, negsuc, ◌+ℤ◌, ap, inl, inr, ltb}
use Rattle.std.proofs.lemmas.Bool.{cases_Bool}
use Rattle.framehop_core.specs.Memory.{Memory}
use Rattle.framehop_cfi.specs.declared.rule.CfaRule.{CfaRule}
use Rattle.framehop_cfi.specs.declared.rule.CfaRule.TheVariants as cfa
use Rattle.framehop_cfi.specs.declared.rule.RegisterRule.{RegisterRule}
use Rattle.framehop_cfi.specs.declared.rule.RegisterRule.TheVariants as rule
use Rattle.framehop_dwarf.specs.Direct.{Scope, below_half, sum_of, cfa_of, register_of}
use Rattle.framehop_dwarf.specs.RowMeaning.{IsCfa, IsColumn}
use Rattle.framehop_dwarf.specs.Laws.Limits.{in-free}
use Rattle.framehop_dwarf.specs.Laws.ValueMeaning.{bind_some, value_in-means}

half : (z : ℤ) (n : ℕ) → below_half z ≡ Some n → z ≡ pos n
half (pos m) n is =
    elim (cases_Bool (ltb m (2 ^ 63))) [
      | inl small ↦ (let e = rw small at is in ap pos cc)
      | inr large ↦ (let e = rw large at is in cc)
    ]
half (negsuc m) n is = cc

pub sum-is : (base : ℕ) (offset : ℤ) (n : ℕ) → sum_of base offset ≡ Some n → pos base +ℤ offset ≡ pos n
sum-is base offset n is =
    elim (cases_Bool (ltb base (2 ^ 63))) [
      | inl small ↦ half (pos base +ℤ offset) n (rw small at is)
      | inr large ↦ (let e = rw large at is in cc)
    ]

-- the same registers and bytes, without a limit
abbrev pub unlimited : Scope → Scope
unlimited scope = record scope { limit = None }

module _ (scope : Scope) where
  pub cfa-means : (cfa_rule : CfaRule) (address : ℕ) → cfa_of scope cfa_rule ≡ Some address
      → IsCfa (unlimited scope) cfa_rule address
  cfa-means (cfa.RegisterAndOffset register offset) address is =
      let base = bind_some (scope.columns register) (λ b. sum_of b offset) address is in
      (base.0, base.1, sum-is base.0 offset address base.2)
  cfa-means (cfa.Expression expression) address is =
      value_in-means scope.bytes scope.columns None expression None address
      (in-free scope.limit scope.columns scope.bytes expression None address is)

  pub column-means : (memory : Memory) (cfa own : ℕ) (column : Option RegisterRule) (value : ℕ)
      → register_of scope memory cfa own column ≡ Some value → IsColumn (unlimited scope) memory cfa own column value
  column-means memory cfa own None value is = cc
  column-means memory cfa own (Some rule.Undefined) value is = cc
  column-means memory cfa own (Some rule.SameValue) value is = cc
  column-means memory cfa own (Some (rule.Offset offset)) value is =
      let at = bind_some (sum_of cfa offset) memory value is in
      (at.0, sum-is cfa offset at.0 at.1, at.2)
  column-means memory cfa own (Some (rule.ValOffset offset)) value is = sum-is cfa offset value is
  column-means memory cfa own (Some (rule.Register register)) value is = is
  column-means memory cfa own (Some (rule.Expression expression)) value is =
      let at = bind_some _ memory value is in (
        at.0,
        value_in-means scope.bytes scope.columns None expression (Some cfa) at.0
            (in-free scope.limit scope.columns scope.bytes expression (Some cfa) at.0 at.1),
        at.2,
      )
  column-means memory cfa own (Some (rule.ValExpression expression)) value is =
      value_in-means scope.bytes scope.columns None expression (Some cfa) value
      (in-free scope.limit scope.columns scope.bytes expression (Some cfa) value is)
