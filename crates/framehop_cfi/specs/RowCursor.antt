-- The rows of an FDE one after another, each for the addresses up to the next one (DWARF 5 section 6.4.3).
use Rattle.std.specs.Prelude.{ℕ, ◌≡◌, ◌≤◌, ◌<◌, true, Option, Ok, Err}
use Rattle.framehop_cfi.specs.Row.{Row}
use Rattle.framehop_cfi.specs.Section.{Section}
use Rattle.framehop_cfi.specs.TableRows.{TableRows}
use Rattle.framehop_cfi.specs.RowAt.{run_from, rows_at, row_at, instructions_of_fde, covers}
use Rattle.framehop_cfi.specs.declared.storage.StorageLimits.{StorageLimits}
use Rattle.framehop_cfi.specs.declared.entry.FrameDescriptionEntry.{FrameDescriptionEntry}
use Rattle.framehop_cfi.specs.declared.read_error.ReadError.{ReadError}

-- The instructions before an offset have been run: of each address from a location on the row is what the instructions
-- from that offset on make of these rows.
abbrev pub HasReached : Option StorageLimits → Section → FrameDescriptionEntry → ℕ → ℕ → TableRows → Type 0
HasReached limits section fde at location rows =
    (address : ℕ) → covers fde address ≡ true → location ≤ address
    → rows_at limits section fde address ≡ run_from limits (instructions_of_fde section fde address) at location rows

-- each address from one on and below another has this row
abbrev pub HaveRow : Option StorageLimits → Section → FrameDescriptionEntry → ℕ → ℕ → Row → Type 0
HaveRow limits section fde from below row =
    (address : ℕ) → covers fde address ≡ true → from ≤ address → address < below
    → row_at limits section fde address ≡ Ok row

-- no address from one on has a row, for this reason
abbrev pub HaveNoRow : Option StorageLimits → Section → FrameDescriptionEntry → ℕ → ReadError → Type 0
HaveNoRow limits section fde from error =
    (address : ℕ) → covers fde address ≡ true → from ≤ address → row_at limits section fde address ≡ Err error
