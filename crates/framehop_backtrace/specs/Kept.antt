-- The rows that a walk keeps.
use Rattle.std.specs.Prelude.{◌≡◌, ℕ, ◌<◌, ⊤, List, get_or, Option, Some, None}
use Rattle.framehop_core.specs.CodeAddress.{FrameLocation, location_of}
use Rattle.framehop_cfi.specs.RowAt.{start}
use Rattle.framehop_cfi.specs.TableRows.{TableRows}
use Rattle.framehop_backtrace.specs.Rows.{Finding, finding_of}
use Rattle.framehop_backtrace.specs.declared.kept.FoundRow.{FoundRow}

-- how many rows are kept
abbrev pub kept_rows : ℕ
kept_rows = 64

-- what is kept for a frame is what is found for it, with the row of its context
abbrev pub IsFound : (FrameLocation → Finding) → Option FoundRow → TableRows → Type 0
IsFound rows (Some found) context = finding_of found.finding context.row ≡ rows (location_of found.address)
IsFound rows None context = ⊤

-- in each place
abbrev pub AreFound : (FrameLocation → Finding) → List (Option FoundRow) → List TableRows → Type 0
AreFound rows found contexts =
    (place : ℕ) → place < kept_rows → IsFound rows (get_or found place None) (get_or contexts place start)
