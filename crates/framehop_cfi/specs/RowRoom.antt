-- When the row of an address needs more room than an empty row has: an instruction before the address gives a register
-- a rule, or remembers the row (DWARF 5 sections 6.4.2.3 and 6.4.2.4).
use Rattle.std.specs.Prelude.{ℕ, zero, suc, Bool, true, false, not, length, Result, Ok, Err, nat_le, ◌||◌, ◌&&◌, if◌then◌else◌}
use Rattle.framehop_cfi.specs.Instruction.{instruction_at}
use Rattle.framehop_cfi.specs.RowAt.{InstructionList, location_after, is_beyond, instructions_of_cie, instructions_of_fde, covers}
use Rattle.framehop_cfi.specs.Section.{Section}
use Rattle.framehop_cfi.specs.declared.entry.FrameDescriptionEntry.{FrameDescriptionEntry}
use Rattle.framehop_cfi.specs.declared.instruction.CallFrameInstruction.{CallFrameInstruction}
use Rattle.framehop_cfi.specs.declared.instruction.CallFrameInstruction.TheVariants.{SetRule, Restore, RememberState}
use Rattle.framehop_cfi.specs.declared.read_error.ReadError.{ReadError}

-- an instruction may make a row longer, or remembers one
abbrev pub needs_room : CallFrameInstruction → Bool
needs_room (SetRule register rule) = true
needs_room (Restore register) = true
needs_room RememberState = true
needs_room instruction = false

-- there is a value, and it passes the test
abbrev pub is_ok_and : {A : Type 0} → (A → Bool) → Result A ReadError → Bool
is_ok_and test (Ok value) = test value
is_ok_and test (Err error) = false

-- one of the instructions from an offset on does: up to the end, or to the first move beyond the address
abbrev pub one_needs_room : InstructionList → ℕ → ℕ → ℕ → Bool
one_needs_room code zero at location = false
one_needs_room code (suc n) at location =
    if nat_le (length code.bytes) at then false
    else is_ok_and (λ read.
    is_ok_and (λ moved.
    not (is_beyond code.address moved) && (needs_room read.0 || one_needs_room code n read.1 moved))
    (location_after code.cie code.address location read.0))
    (instruction_at code.cie code.bases code.bytes at)

unfoldable pub list_needs_room : InstructionList → ℕ → ℕ → Bool
list_needs_room code at location = one_needs_room code (suc (length code.bytes)) at location

-- one of the instructions of an FDE's CIE, or of its own before the first move beyond the address
unfoldable pub row_needs_room : Section → FrameDescriptionEntry → ℕ → Bool
row_needs_room section fde address =
    covers fde address
    && (list_needs_room (instructions_of_cie section fde.cie) fde.cie.instructions 0
    || list_needs_room (instructions_of_fde section fde address) fde.instructions fde.initial_address)
