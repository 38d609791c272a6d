-- What rows say of the CFA, and what that means.
use Rattle.std.specs.Prelude.{◌≡◌, ℕ, ℤ, ◌+ℤ◌, Option, Some, None}
use Rattle.framehop_cfi.specs.Row.{Row, rule_of}
use Rattle.framehop_cfi.specs.declared.rule.CfaRule.{CfaRule}
use Rattle.framehop_cfi.specs.declared.rule.CfaRule.TheVariants.{RegisterAndOffset, Expression}
use Rattle.framehop_cfi.specs.declared.rule.RegisterRule.{RegisterRule}
use Rattle.framehop_cfi.specs.declared.rule.RegisterRule.TheVariants.{Undefined}
use Rattle.framehop_code.specs.Effect.{State, value_of}
use Rattle.framehop_code.specs.declared.effect.Base.{Base}
use Rattle.framehop_check.specs.declared.claim.Claim.{Claim}
use Rattle.framehop_check.specs.declared.claim.Claim.TheVariants.{Above, Other}

-- so many bytes above a register, if it is one of the two
abbrev pub above : ℤ → Option Base → Claim
above offset (Some base) = Above base offset
above offset None = Other

abbrev pub claim_of_cfa : (ℕ → Option Base) → CfaRule → Claim
claim_of_cfa numbered (RegisterAndOffset register offset) = above offset (numbered register.0)
claim_of_cfa numbered (Expression expression) = Other

-- a row whose return address is undefined says nothing
abbrev pub claim_by_return : (ℕ → Option Base) → CfaRule → Option RegisterRule → Claim
claim_by_return numbered cfa (Some Undefined) = Other
claim_by_return numbered cfa rule = claim_of_cfa numbered cfa

abbrev pub claim_of_row : (ℕ → Option Base) → ℕ → Row → Claim
claim_of_row numbered return_column row =
    claim_by_return numbered row.cfa (rule_of row.rules (record { 0 = return_column }))

-- the CFA is where a row says that it is
abbrev pub Says : Claim → ℤ → State → Type 0
Says (Above base offset) cfa s = cfa ≡ value_of s base +ℤ offset
Says Other cfa s = Unit {0}
