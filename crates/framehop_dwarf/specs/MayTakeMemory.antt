-- When unwinding by call frame information may take memory, and so may run out of it: where its storage has no limits,
-- and rows need room (DW_CFA_offset, DW_CFA_remember_state and their kin before the address) or the row has an
-- expression, whose stack of values grows.
-- (DWARF 5 section 6.4.2.)
use Rattle.std.specs.Prelude.{ℕ, Bool, true, false, Option, Some, None, is_none, Result, Ok, Err, ◌||◌, ◌&&◌}
use Rattle.std.specs.List.{list_any}
use Rattle.framehop_cfi.specs.Section.{Section}
use Rattle.framehop_cfi.specs.Entry.{fde_at}
use Rattle.framehop_cfi.specs.Row.{Row}
use Rattle.framehop_cfi.specs.RowRoom.{row_needs_room}
use Rattle.framehop_cfi.specs.declared.storage.StorageLimits.{StorageLimits}
use Rattle.framehop_cfi.specs.declared.entry.FrameDescriptionEntry.{FrameDescriptionEntry}
use Rattle.framehop_cfi.specs.declared.read_error.ReadError.{ReadError}
use Rattle.framehop_cfi.specs.declared.rule.CfaRule.{CfaRule}
use Rattle.framehop_cfi.specs.declared.rule.CfaRule.TheVariants as cfa
use Rattle.framehop_cfi.specs.declared.rule.RegisterRule.{RegisterRule}
use Rattle.framehop_cfi.specs.declared.rule.RegisterRule.TheVariants as rule
use Rattle.framehop_dwarf.specs.Unwinder.{Reading, unread, uncovered, by_row, reading_of}

-- the CFA is the value of an expression
abbrev pub is_cfa_expression : CfaRule → Bool
is_cfa_expression (cfa.RegisterAndOffset register offset) = false
is_cfa_expression (cfa.Expression expression) = true

-- a register has the value of an expression, or is saved at it
abbrev pub is_expression : RegisterRule → Bool
is_expression (rule.Expression expression) = true
is_expression (rule.ValExpression expression) = true
is_expression other = false

-- the same of a rule that may not be there
abbrev pub is_some_expression : Option RegisterRule → Bool
is_some_expression None = false
is_some_expression (Some rule) = is_expression rule

-- an expression is in a row
unfoldable pub has_expression : Row → Bool
has_expression row = is_cfa_expression row.cfa || list_any (λ entry. is_expression entry.1) row.rules

-- an expression is in the row that is read, if one is
abbrev pub reads_expression : Reading → Bool
reads_expression (unread error) = false
reads_expression uncovered = false
reads_expression (by_row row) = has_expression row

-- the row of an address by an FDE needs room, if the FDE can be read
abbrev pub needs_room_by : Section → ℕ → Result FrameDescriptionEntry ReadError → Bool
needs_room_by section address (Ok fde) = row_needs_room section fde address
needs_room_by section address (Err error) = false

-- Unwinding by the FDE at an offset may take memory for an address: by these limits of rows and of the values of an
-- expression.
unfoldable pub may_take_memory : Option StorageLimits → Option ℕ → Section → ℕ → ℕ → Bool
may_take_memory rows values section address offset =
    (is_none rows && needs_room_by section address (fde_at section offset))
    || (is_none values && reads_expression (reading_of rows section address offset))
