-- The row of an address: the instructions of a CIE, and those of an FDE up to the address (DWARF 5 section 6.4.3).
use Rattle.std.specs.Prelude.{ℕ, zero, suc, ◌+◌, ◌*◌, ◌^◌, Bool, false, List, [], length, take, Option, Some, None, Result, Ok, Err, nat_le, nat_lt, ◌&&◌, if◌then◌else◌}
use Rattle.framehop_bytes.specs.Bytes.{◌>>=◌}
use Rattle.framehop_cfi.specs.Instruction.{instruction_at}
use Rattle.framehop_cfi.specs.Section.{Section}
use Rattle.framehop_cfi.specs.TableRows.{TableRows, effect}
use Rattle.framehop_cfi.specs.Row.{Row, empty_row}
use Rattle.framehop_cfi.specs.declared.storage.StorageLimits.{StorageLimits}
use Rattle.framehop_cfi.specs.declared.pointer.SectionBaseAddresses.{SectionBaseAddresses}
use Rattle.framehop_cfi.specs.declared.entry.CommonInformationEntry.{CommonInformationEntry}
use Rattle.framehop_cfi.specs.declared.entry.FrameDescriptionEntry.{FrameDescriptionEntry}
use Rattle.framehop_cfi.specs.declared.instruction.CallFrameInstruction.{CallFrameInstruction}
use Rattle.framehop_cfi.specs.declared.instruction.CallFrameInstruction.TheVariants.{SetLoc, AdvanceLoc}
use Rattle.framehop_cfi.specs.declared.read_error.ReadError.{ReadError}
use Rattle.framehop_cfi.specs.declared.read_error.ReadError.TheVariants.{InvalidContext, NumberTooBig, NoRow}

-- a list of instructions: its bytes, how they are read, and the address that is looked for (none in a CIE)
pub record InstructionList : Type 0 where
  pub cie : CommonInformationEntry
  pub bases : SectionBaseAddresses
  pub bytes : List ℕ
  pub address : Option ℕ

-- a location that rose by so many bytes; both must fit
abbrev pub risen : ℕ → ℕ → Result ℕ ReadError
risen location bytes =
    if nat_lt bytes (2 ^ 63) && nat_lt (location + bytes) (2 ^ 64) then Ok (location + bytes) else Err NumberTooBig

-- the location that an instruction leaves; a CIE's don't move it, and an FDE's don't move it back
abbrev pub location_after : CommonInformationEntry → Option ℕ → ℕ → CallFrameInstruction → Result ℕ ReadError
location_after cie None location (SetLoc address) = Err InvalidContext
location_after cie None location (AdvanceLoc delta) = Err InvalidContext
location_after cie (Some target) location (SetLoc address) =
    if nat_lt address location then Err InvalidContext else Ok address
location_after cie (Some target) location (AdvanceLoc delta) = risen location (delta * cie.code_alignment_factor)
location_after cie target location instruction = Ok location

-- the location lies beyond the address
abbrev pub is_beyond : Option ℕ → ℕ → Bool
is_beyond None location = false
is_beyond (Some address) location = nat_lt address location

-- what the instructions from an offset on make of the rows: up to the end, or to the first move beyond the address
abbrev pub run : Option StorageLimits → InstructionList → ℕ → ℕ → ℕ → TableRows → Result TableRows ReadError
run limits code zero at location rows = Ok rows
run limits code (suc n) at location rows =
    if nat_le (length code.bytes) at then Ok rows
    else (instruction_at code.cie code.bases code.bytes at >>= λ read.
    location_after code.cie code.address location read.0 >>= λ moved.
    if is_beyond code.address moved then Ok rows
    else (effect limits read.0 rows >>= run limits code n read.1 moved))

-- all the instructions from an offset on
unfoldable pub run_from : Option StorageLimits → InstructionList → ℕ → ℕ → TableRows → Result TableRows ReadError
run_from limits code at location rows = run limits code (suc (length code.bytes)) at location rows

-- nothing is known before the CIE's instructions; then its row is the initial one
abbrev pub start : TableRows
start = record { initial = None; row = empty_row; remembered = [] }

abbrev pub begun : TableRows → TableRows
begun rows = record rows { initial = Some rows.row }

-- a CIE's instructions, and an FDE's
abbrev pub instructions_of_cie : Section → CommonInformationEntry → InstructionList
instructions_of_cie section cie =
    record { cie = cie; bases = section.bases; bytes = take cie.end section.bytes; address = None }

abbrev pub instructions_of_fde : Section → FrameDescriptionEntry → ℕ → InstructionList
instructions_of_fde section fde address =
    record { cie = fde.cie; bases = section.bases; bytes = take fde.end section.bytes; address = Some address }

-- the FDE covers the address; one beyond 64 bits is covered by none
abbrev pub covers : FrameDescriptionEntry → ℕ → Bool
covers fde address =
    nat_lt address (2 ^ 64) && nat_le fde.initial_address address
    && nat_lt address (fde.initial_address + fde.address_range)

-- what both lists leave: the CIE's, and then the FDE's up to the address
unfoldable pub rows_at : Option StorageLimits → Section → FrameDescriptionEntry → ℕ → Result TableRows ReadError
rows_at limits section fde address =
    if covers fde address then (
    run_from limits (instructions_of_cie section fde.cie) fde.cie.instructions 0 start >>= λ rows.
    run_from limits (instructions_of_fde section fde address) fde.instructions fde.initial_address (begun rows))
    else Err NoRow

-- the row of an address
unfoldable pub row_at : Option StorageLimits → Section → FrameDescriptionEntry → ℕ → Result Row ReadError
row_at limits section fde address = rows_at limits section fde address >>= λ rows. Ok rows.row
