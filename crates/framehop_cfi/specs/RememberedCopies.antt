-- Remembered rows of a storage with limits, each of which has its rules or shares them (DWARF 5 section 6.4.2.4).
use Rattle.std.specs.Prelude.{Bool, false, List, [], ◌∷◌, ◌++◌, length, Option, Some, None, Result, Ok, Err, unwrap_or, is_some, not, if◌then◌else◌}
use Rattle.framehop_cfi.specs.Row.{Row}
use Rattle.framehop_cfi.specs.TableRows.{rows_are_full}
use Rattle.framehop_cfi.specs.declared.read_error.ReadError.{ReadError}
use Rattle.framehop_cfi.specs.declared.read_error.ReadError.TheVariants.{TooManyRows}
use Rattle.framehop_cfi.specs.declared.rule.CfaRule.{CfaRule}
use Rattle.framehop_cfi.specs.declared.rule.Register.{Register}
use Rattle.framehop_cfi.specs.declared.rule.RegisterRule.{RegisterRule}
use Rattle.framehop_cfi.specs.declared.storage.StorageLimits.{StorageLimits}

-- a remembered row: its CFA, and its rules if it has them; else they are those of the next one, or after the latest those of
-- the row that instructions work on
pub record CopiedView : Type 0 where
  pub cfa : CfaRule
  pub rules : Option (List (Register × RegisterRule))

abbrev pub copied_view : Row → Bool → CopiedView
copied_view row has_rules = record { cfa = row.cfa; rules = if has_rules then Some row.rules else None }

-- the row of one that was remembered last, by the rules of the row that instructions work on
abbrev pub popped_row : CopiedView → List (Register × RegisterRule) → Row
popped_row remembered rules = record { cfa = remembered.cfa; rules = unwrap_or remembered.rules rules }

-- the rules of the first of them, or of the row that instructions work on
abbrev pub first_rules : List CopiedView → List (Register × RegisterRule) → List (Register × RegisterRule)
first_rules [] rules = rules
first_rules (remembered ∷ later) rules = unwrap_or remembered.rules (first_rules later rules)

-- the rows that are remembered, by the rules of the row that instructions work on
abbrev pub copied_rows : List CopiedView → List (Register × RegisterRule) → List Row
copied_rows [] rules = []
copied_rows (remembered ∷ later) rules =
    popped_row remembered (first_rules later rules) ∷ copied_rows later rules

-- the latest shares the rules of the row that instructions work on
abbrev pub is_shared : List CopiedView → Bool
is_shared [] = false
is_shared (remembered ∷ []) = not (is_some remembered.rules)
is_shared (remembered ∷ next ∷ later) = is_shared (next ∷ later)

-- another one, which shares them
abbrev pub pushed : Option StorageLimits → CfaRule → List CopiedView → Result (List CopiedView) ReadError
pushed limits cfa remembered =
    if rows_are_full limits (length remembered) then Err TooManyRows
    else Ok (remembered ++ record { cfa = cfa; rules = None } ∷ [])

-- the latest with rules, where it had none
abbrev pub kept : List (Register × RegisterRule) → List CopiedView → List CopiedView
kept rules [] = []
kept rules (remembered ∷ []) = record remembered { rules = Some (unwrap_or remembered.rules rules) } ∷ []
kept rules (remembered ∷ next ∷ later) = remembered ∷ kept rules (next ∷ later)
