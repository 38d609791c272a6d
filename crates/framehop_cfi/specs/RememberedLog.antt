-- Remembered rows as a log: the latest note last (DWARF 5 section 6.4.2.4).
use Rattle.std.specs.Prelude.{◌-◌, List, [], ◌∷◌, length, take, insert, slice_set}
use Rattle.framehop_cfi.specs.Row.{Row}
use Rattle.framehop_cfi.specs.declared.remembered_log.Note.{Note}
use Rattle.framehop_cfi.specs.declared.remembered_log.Note.TheVariants.{Remembered, Changed}
use Rattle.framehop_cfi.specs.declared.row.RuleChange.{RuleChange}
use Rattle.framehop_cfi.specs.declared.row.RuleChange.TheVariants.{Set, Added, Removed}
use Rattle.framehop_cfi.specs.declared.rule.Register.{Register}
use Rattle.framehop_cfi.specs.declared.rule.RegisterRule.{RegisterRule}

-- the rules of a row
abbrev pub Rules : Type 0
Rules = List (Register × RegisterRule)

-- the rules before a change, by those after it: the rule that was at the place, without the one at the end, or with the one
-- that was taken away
abbrev pub undone : RuleChange → Rules → Rules
undone (Set place was) rules = slice_set rules place was
undone Added rules = take (length rules - 1) rules
undone (Removed place was) rules = insert rules place was

-- the rules before all that is noted, by those after it
abbrev pub rules_before : List Note → Rules → Rules
rules_before [] rules = rules
rules_before (Remembered cfa ∷ later) rules = rules_before later rules
rules_before (Changed change ∷ later) rules = undone change (rules_before later rules)

-- the rows that are remembered, by the rules of the row that instructions work on: each has those before what was noted
-- after it
abbrev pub logged_rows : List Note → Rules → List Row
logged_rows [] rules = []
logged_rows (Remembered cfa ∷ later) rules =
    record { cfa = cfa; rules = rules_before later rules } ∷ logged_rows later rules
logged_rows (Changed change ∷ later) rules = logged_rows later rules

-- a log begins where a row was remembered
abbrev pub BeginsWithRow : List Note → Type 0
BeginsWithRow [] = Unit {0}
BeginsWithRow (Remembered cfa ∷ later) = Unit {0}
BeginsWithRow (Changed change ∷ later) = ⊥
