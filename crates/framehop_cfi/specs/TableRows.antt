-- What call frame instructions do to a row (DWARF 5 sections 6.4.2 and 6.4.3).
use Rattle.std.specs.Prelude.{ℕ, ◌-◌, Bool, false, List, [], ◌∷◌, ◌++◌, length, take, slice_get, Option, Some, None, Result, Ok, Err, ℤ, nat_le, if◌then◌else◌}
use Rattle.framehop_bytes.specs.Bytes.{◌>>=◌}
use Rattle.framehop_cfi.specs.Row.{Row, rule_of, with_rule, without_rule}
use Rattle.framehop_cfi.specs.declared.rule.Register.{Register}
use Rattle.framehop_cfi.specs.declared.rule.CfaRule.{CfaRule}
use Rattle.framehop_cfi.specs.declared.rule.CfaRule.TheVariants.{RegisterAndOffset, Expression}
use Rattle.framehop_cfi.specs.declared.rule.RegisterRule.{RegisterRule}
use Rattle.framehop_cfi.specs.declared.storage.StorageLimits.{StorageLimits}
use Rattle.framehop_cfi.specs.declared.instruction.CallFrameInstruction.{CallFrameInstruction}
use Rattle.framehop_cfi.specs.declared.instruction.CallFrameInstruction.TheVariants.{Nop, NegateRaState, ArgsSize, SetLoc, AdvanceLoc, SetRule, Restore, RememberState, RestoreState, DefCfa, DefCfaRegister, DefCfaOffset}
use Rattle.framehop_cfi.specs.declared.read_error.ReadError.{ReadError}
use Rattle.framehop_cfi.specs.declared.read_error.ReadError.TheVariants.{InvalidContext, TooManyRows, NothingRemembered}

-- what the instructions work on: the row, those that were remembered (the latest last), and, in an FDE, the row that
-- the CIE left
pub record TableRows : Type 0 where
  pub initial : Option Row
  pub row : Row
  pub remembered : List Row

-- the row with another CFA
abbrev pub with_cfa : CfaRule → TableRows → TableRows
with_cfa cfa rows = record rows { row = record (rows.row) { cfa = cfa } }

-- the row with other rules
abbrev pub with_rules : TableRows → List (Register × RegisterRule) → TableRows
with_rules rows rules = record rows { row = record (rows.row) { rules = rules } }

-- a register's rule set
abbrev pub setting : Option StorageLimits → Register → RegisterRule → TableRows → Result TableRows ReadError
setting limits register rule rows =
    with_rule limits register rule rows.row.rules >>= λ rules. Ok (with_rules rows rules)

-- a register's rule as it was after the CIE: set, or taken away
abbrev pub restoring_to : Option StorageLimits → Register → TableRows → Option RegisterRule → Result TableRows ReadError
restoring_to limits register rows (Some rule) = setting limits register rule rows
restoring_to limits register rows None = Ok (with_rules rows (without_rule register rows.row.rules))

abbrev pub restoring : Option StorageLimits → Register → TableRows → Option Row → Result TableRows ReadError
restoring limits register rows None = Err InvalidContext
restoring limits register rows (Some initial) = restoring_to limits register rows (rule_of initial.rules register)

-- so many rows are all that can be remembered
abbrev pub rows_are_full : Option StorageLimits → ℕ → Bool
rows_are_full None count = false
rows_are_full (Some limits) count = nat_le limits.rows count

-- DW_CFA_remember_state: the row is remembered, if there is room
abbrev pub remembering : Option StorageLimits → TableRows → Result TableRows ReadError
remembering limits rows =
    if rows_are_full limits (length rows.remembered) then Err TooManyRows
    else Ok (record rows { remembered = rows.remembered ++ rows.row ∷ [] })

-- DW_CFA_restore_state: the row that was remembered last, which is forgotten
abbrev pub restored_state : TableRows → Option Row → Result TableRows ReadError
restored_state rows None = Err NothingRemembered
restored_state rows (Some row) =
    Ok (record rows { row = row; remembered = take (length rows.remembered - 1) rows.remembered })

abbrev pub restoring_state : TableRows → Result TableRows ReadError
restoring_state rows = restored_state rows (slice_get rows.remembered (length rows.remembered - 1))

-- the CFA counted from another register, or by another offset; an expression has neither
abbrev pub cfa_register : Register → CfaRule → Result CfaRule ReadError
cfa_register register (RegisterAndOffset old offset) = Ok (RegisterAndOffset register offset)
cfa_register register (Expression expression) = Err InvalidContext

-- the CFA counted by another offset; an expression has none
abbrev pub cfa_offset : ℤ → CfaRule → Result CfaRule ReadError
cfa_offset offset (RegisterAndOffset register old) = Ok (RegisterAndOffset register offset)
cfa_offset offset (Expression expression) = Err InvalidContext

-- what an instruction does; a move of the location does nothing here
abbrev pub effect : Option StorageLimits → CallFrameInstruction → TableRows → Result TableRows ReadError
effect limits Nop rows = Ok rows
effect limits NegateRaState rows = Ok rows
effect limits (ArgsSize size) rows = Ok rows
effect limits (SetLoc address) rows = Ok rows
effect limits (AdvanceLoc delta) rows = Ok rows
effect limits (SetRule register rule) rows = setting limits register rule rows
effect limits (Restore register) rows = restoring limits register rows rows.initial
effect limits RememberState rows = remembering limits rows
effect limits RestoreState rows = restoring_state rows
effect limits (DefCfa cfa) rows = Ok (with_cfa cfa rows)
effect limits (DefCfaRegister register) rows = cfa_register register rows.row.cfa >>= λ cfa. Ok (with_cfa cfa rows)
effect limits (DefCfaOffset offset) rows = cfa_offset offset rows.row.cfa >>= λ cfa. Ok (with_cfa cfa rows)

-- the effects of a list of instructions, one after another
abbrev pub effects : Option StorageLimits → List CallFrameInstruction → TableRows → Result TableRows ReadError
effects limits [] rows = Ok rows
effects limits (instruction ∷ instructions) rows =
    effect limits instruction rows >>= effects limits instructions
