-- Rows of a call frame table (DWARF 5 section 6.4.1).
use Rattle.std.specs.Prelude.{ℕ, ◌≤◌, Bool, false, List, [], ◌∷◌, ◌++◌, length, slice_set, remove, position, find, Option, Some, None, option_map, Result, Ok, Err, ◌==◌, nat_le, pos, if◌then◌else◌}
use Rattle.framehop_cfi.specs.declared.rule.Register.{Register}
use Rattle.framehop_cfi.specs.declared.rule.CfaRule.{CfaRule}
use Rattle.framehop_cfi.specs.declared.rule.CfaRule.TheVariants.{RegisterAndOffset}
use Rattle.framehop_cfi.specs.declared.rule.RegisterRule.{RegisterRule}
use Rattle.framehop_cfi.specs.declared.storage.StorageLimits.{StorageLimits}
use Rattle.framehop_cfi.specs.declared.read_error.ReadError.{ReadError}
use Rattle.framehop_cfi.specs.declared.read_error.ReadError.TheVariants.{TooManyRules}

-- a row: how the CFA is found, and the registers that have a rule
pub record Row : Type 0 where
  pub cfa : CfaRule
  pub rules : List (Register × RegisterRule)

-- the row before any instruction: the CFA is register 0 plus 0, and no register has a rule
abbrev pub empty_row : Row
empty_row = record { cfa = RegisterAndOffset (record { 0 = 0 }) (pos 0); rules = [] }

-- a rule of that register
abbrev pub is_of : Register → Register × RegisterRule → Bool
is_of register entry = entry.0.0 == register.0

-- the rule of a register, if it has one
abbrev pub rule_of : List (Register × RegisterRule) → Register → Option RegisterRule
rule_of rules register = option_map (λ entry. entry.1) (find (is_of register) rules)

-- so many rules are all that a row may have
abbrev pub is_full : Option StorageLimits → ℕ → Bool
is_full None count = false
is_full (Some limits) count = nat_le limits.rules count

-- the rules with one of a register's set: in its place, or at the end
abbrev pub set_at : Option StorageLimits → Register → RegisterRule → List (Register × RegisterRule) → Option ℕ
    → Result (List (Register × RegisterRule)) ReadError
set_at limits register rule rules (Some i) = Ok (slice_set rules i (register, rule))
set_at limits register rule rules None =
    if is_full limits (length rules) then Err TooManyRules else Ok (rules ++ (register, rule) ∷ [])

unfoldable pub with_rule : Option StorageLimits → Register → RegisterRule → List (Register × RegisterRule)
    → Result (List (Register × RegisterRule)) ReadError
with_rule limits register rule rules = set_at limits register rule rules (position (is_of register) rules)

-- the rules without one of a register
abbrev pub removed_at : List (Register × RegisterRule) → Option ℕ → List (Register × RegisterRule)
removed_at rules (Some i) = remove rules i
removed_at rules None = rules

unfoldable pub without_rule : Register → List (Register × RegisterRule) → List (Register × RegisterRule)
without_rule register rules = removed_at rules (position (is_of register) rules)

-- a row's rules lie within the limits, and there is room for all that it may have
abbrev pub HasRoom : Option StorageLimits → ℕ → ℕ → Type 0
HasRoom None count room = Unit {0}
HasRoom (Some limits) count room = (count ≤ limits.rules) × (limits.rules ≤ room)
