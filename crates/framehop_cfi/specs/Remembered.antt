-- Rows that are remembered (DWARF 5 section 6.4.2.4): a log of what changed since, or copies where the storage has limits.
use Rattle.std.specs.Prelude.{List, [], ◌∷◌, ◌++◌, length, Option, Some, None, Result, Ok, Err, if◌then◌else◌}
use Rattle.framehop_cfi.specs.RememberedCopies.{CopiedView, copied_rows}
use Rattle.framehop_cfi.specs.RememberedLog.{Rules, logged_rows}
use Rattle.framehop_cfi.specs.Row.{Row}
use Rattle.framehop_cfi.specs.TableRows.{rows_are_full}
use Rattle.framehop_cfi.specs.declared.read_error.ReadError.{ReadError}
use Rattle.framehop_cfi.specs.declared.read_error.ReadError.TheVariants.{TooManyRows}
use Rattle.framehop_cfi.specs.declared.remembered_log.Note.{Note}
use Rattle.framehop_cfi.specs.declared.storage.StorageLimits.{StorageLimits}

-- what is kept of them: a log in a storage without limits, copies in one with limits; of the other there is nothing
pub record Remembered : Type 0 where
  pub log : List Note
  pub copies : List CopiedView

abbrev pub nothing_remembered : Remembered
nothing_remembered = record { log = []; copies = [] }

-- the rows that are remembered, by the rules of the row that instructions work on
abbrev pub remembered_rows : Option StorageLimits → Remembered → Rules → List Row
remembered_rows None remembered rules = logged_rows remembered.log rules
remembered_rows (Some limits) remembered rules = copied_rows remembered.copies rules

-- and with another row, if there is room
abbrev pub remembering_row : Option StorageLimits → Row → List Row → Result (List Row) ReadError
remembering_row limits row rows = if rows_are_full limits (length rows) then Err TooManyRows else Ok (rows ++ row ∷ [])
