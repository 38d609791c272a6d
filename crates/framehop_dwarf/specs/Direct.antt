-- The values that the rules of a row give (DWARF 5 section 6.4.1), as far as they are computed on the spot.
use Rattle.std.specs.Prelude.{ℕ, ◌^◌, List, Option, Some, None, option_and_then, Result, Err, ℤ, pos, negsuc, ◌+ℤ◌, nat_lt, if◌then◌else◌}
use Rattle.framehop_core.specs.Memory.{Memory}
use Rattle.framehop_cfi.specs.declared.rule.Register.{Register}
use Rattle.framehop_cfi.specs.declared.rule.CfaRule.{CfaRule}
use Rattle.framehop_cfi.specs.declared.rule.CfaRule.TheVariants as cfa
use Rattle.framehop_cfi.specs.declared.rule.RegisterRule.{RegisterRule}
use Rattle.framehop_cfi.specs.declared.rule.RegisterRule.TheVariants as rule
use Rattle.framehop_dwarf.specs.Evaluation.{value_in}

-- what rules are evaluated over: the section's bytes, the registers, and the most values of an expression
pub record Scope : Type 0 where
  pub bytes : List ℕ
  pub columns : Register → Option ℕ
  pub limit : Option ℕ

-- a number below 2^63
abbrev pub below_half : ℤ → Option ℕ
below_half (pos n) = if nat_lt n (2 ^ 63) then Some n else None
below_half (negsuc n) = None

-- a base and an offset: both the base and the sum lie from 0 to 2^63 - 1
abbrev pub sum_of : ℕ → ℤ → Option ℕ
sum_of base offset = if nat_lt base (2 ^ 63) then below_half (pos base +ℤ offset) else None

-- the CFA
abbrev pub cfa_of : Scope → CfaRule → Option ℕ
cfa_of scope (cfa.RegisterAndOffset register offset) =
    option_and_then (λ base. sum_of base offset) (scope.columns register)
cfa_of scope (cfa.Expression expression) = value_in scope.bytes scope.columns scope.limit expression None

-- the value of a register that now has this value; an expression starts with the CFA
abbrev pub register_of : Scope → Memory → ℕ → ℕ → Option RegisterRule → Option ℕ
register_of scope memory cfa value None = None
register_of scope memory cfa value (Some rule.Undefined) = None
register_of scope memory cfa value (Some rule.SameValue) = Some value
register_of scope memory cfa value (Some (rule.Offset offset)) = option_and_then memory (sum_of cfa offset)
register_of scope memory cfa value (Some (rule.ValOffset offset)) = sum_of cfa offset
register_of scope memory cfa value (Some (rule.Register register)) = scope.columns register
register_of scope memory cfa value (Some (rule.Expression expression)) =
    option_and_then memory (value_in scope.bytes scope.columns scope.limit expression (Some cfa))
register_of scope memory cfa value (Some (rule.ValExpression expression)) =
    value_in scope.bytes scope.columns scope.limit expression (Some cfa)

-- a value that is needed, and what follows it
abbrev pub needed : {A B E : Type 0} → E → Option A → (A → Result B E) → Result B E
needed error None next = Err error
needed error (Some value) next = next value
