-- What a call frame section has for an address stands in its bytes.
use Rattle.std.proofs.Common.{◌≡◌, ℕ, ◌≤◌, ◌^◌, Option, Result, Ok, Err, refl}
use Rattle.std.proofs.lemmas.Bool.{le-ltb}
use Rattle.framehop_cfi.specs.Section.{Section}
use Rattle.framehop_cfi.specs.Entry.{fde_at}
use Rattle.framehop_cfi.specs.EntryMeaning.{IsFde}
use Rattle.framehop_cfi.specs.Row.{Row}
use Rattle.framehop_cfi.specs.RowAt.{row_at, rows_at}
use Rattle.framehop_cfi.specs.declared.storage.StorageLimits.{StorageLimits}
use Rattle.framehop_cfi.specs.declared.entry.FrameDescriptionEntry.{FrameDescriptionEntry}
use Rattle.framehop_cfi.specs.declared.read_error.ReadError.{ReadError}
use Rattle.framehop_cfi.specs.declared.read_error.ReadError.TheVariants.{NoRow}
use Rattle.framehop_cfi.proofs.EntryMeaning.{fde_at-means, means-fde_at}
use Rattle.framehop_cfi.proofs.RowMeaning.{row_at-means, means-row_at}
use Rattle.framehop_dwarf.specs.Unwinder.{uncovered, of_row, of_fde, reading_of, IsReading}

-- an address beyond 64 bits has no row
pub no-row : (limits : Option StorageLimits) (section : Section) (fde : FrameDescriptionEntry) (address : ℕ) → 2 ^ 64 ≤ address → row_at limits section fde address ≡ Err NoRow
unfolding row_at rows_at
no-row limits section fde address past = rw (le-ltb address (2 ^ 64) past) refl

module _ (limits : Option StorageLimits) (section : Section) (address offset : ℕ) where
  row-reads : (fde : FrameDescriptionEntry) (read : Result Row ReadError) → IsFde section offset fde → row_at limits section fde address ≡ read → IsReading limits section address offset (of_row read)
  row-reads fde (Ok row) there is = (fde, there, row_at-means limits section fde address row is)
  row-reads fde (Err error) there is = (fde, there, λ row has. let found = means-row_at limits section fde address row has in cc)

  fde-reads : (read : Result FrameDescriptionEntry ReadError) → fde_at section offset ≡ read → IsReading limits section address offset (of_fde limits section address read)
  fde-reads (Ok fde) is = row-reads fde (row_at limits section fde address) (fde_at-means section offset fde is) refl
  fde-reads (Err error) is = λ fde there. let found = means-fde_at section offset fde there in cc

  pub reading-is : IsReading limits section address offset (reading_of limits section address offset)
  unfolding reading_of
  reading-is = fde-reads (fde_at section offset) refl

  pub past-end : (fde : FrameDescriptionEntry) → fde_at section offset ≡ Ok fde → 2 ^ 64 ≤ address → reading_of limits section address offset ≡ uncovered
  unfolding reading_of
  past-end fde is past = rw is (rw (no-row limits section fde address past) refl)
