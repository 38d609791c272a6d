-- What the rules of a row mean (DWARF 5 section 6.4.1), as relations that know no rule of the unwinder.
use Rattle.std.specs.Prelude.{ℕ, ◌≡◌, Option, Some, None, ℤ, pos, ◌+ℤ◌}
use Rattle.framehop_core.specs.Memory.{Memory}
use Rattle.framehop_cfi.specs.declared.rule.CfaRule.{CfaRule}
use Rattle.framehop_cfi.specs.declared.rule.CfaRule.TheVariants as cfa
use Rattle.framehop_cfi.specs.declared.rule.RegisterRule.{RegisterRule}
use Rattle.framehop_cfi.specs.declared.rule.RegisterRule.TheVariants as rule
use Rattle.framehop_cfi.specs.declared.rule.Expression.{Expression}
use Rattle.framehop_dwarf.specs.Evaluation.{IsValueIn}
use Rattle.framehop_dwarf.specs.Direct.{Scope}

-- an expression has this value, from a first value or an empty stack
abbrev pub IsValueOf : Scope → Expression → Option ℕ → ℕ → Type 0
IsValueOf scope expression first value = IsValueIn scope.bytes scope.columns scope.limit expression first value

-- the canonical frame address
abbrev pub IsCfa : Scope → CfaRule → ℕ → Type 0
IsCfa scope (cfa.RegisterAndOffset register offset) address =
    (base : ℕ) × (scope.columns register ≡ Some base) × (pos base +ℤ offset ≡ pos address)
IsCfa scope (cfa.Expression expression) address = IsValueOf scope expression None address

-- the word that is stored at an offset from the CFA
abbrev pub IsStored : Memory → ℕ → ℤ → ℕ → Type 0
IsStored memory cfa offset value = (at : ℕ) × (pos cfa +ℤ offset ≡ pos at) × (memory at ≡ Some value)

-- a column's value, where the column now has a value of its own
abbrev pub IsColumn : Scope → Memory → ℕ → ℕ → Option RegisterRule → ℕ → Type 0
IsColumn scope memory cfa own None value = ⊥
IsColumn scope memory cfa own (Some rule.Undefined) value = ⊥
IsColumn scope memory cfa own (Some rule.SameValue) value = value ≡ own
IsColumn scope memory cfa own (Some (rule.Offset offset)) value = IsStored memory cfa offset value
IsColumn scope memory cfa own (Some (rule.ValOffset offset)) value = pos cfa +ℤ offset ≡ pos value
IsColumn scope memory cfa own (Some (rule.Register register)) value = scope.columns register ≡ Some value
IsColumn scope memory cfa own (Some (rule.Expression expression)) value =
    (at : ℕ) × IsValueOf scope expression (Some cfa) at × (memory at ≡ Some value)
IsColumn scope memory cfa own (Some (rule.ValExpression expression)) value = IsValueOf scope expression (Some cfa) value
