-- One instruction of a list: what it makes of the rows, and where the list goes on (DWARF 5 section 6.4.3).
use Rattle.std.specs.Prelude.{ℕ, ◌≡◌, ◌≢◌, Bool, not, Option, Some, None, Result, Ok, Err, ◌&&◌, if◌then◌else◌}
use Rattle.framehop_bytes.specs.Bytes.{◌>>=◌}
use Rattle.framehop_cfi.specs.Instruction.{instruction_at}
use Rattle.framehop_cfi.specs.TableRows.{TableRows, effect}
use Rattle.framehop_cfi.specs.RowAt.{InstructionList, location_after, is_beyond}
use Rattle.framehop_cfi.specs.RowRoom.{needs_room, is_ok_and}
use Rattle.framehop_cfi.specs.declared.context.RowCursor.{RowCursor}
use Rattle.framehop_cfi.specs.declared.storage.StorageLimits.{StorageLimits}
use Rattle.framehop_cfi.specs.declared.entry.CommonInformationEntry.{CommonInformationEntry}
use Rattle.framehop_cfi.specs.declared.instruction.CallFrameInstruction.{CallFrameInstruction}
use Rattle.framehop_cfi.specs.declared.read_error.ReadError.{ReadError}
use Rattle.framehop_cfi.specs.declared.read_error.ReadError.TheVariants.{OutOfMemory}

-- Where the next instruction is and its location, with the rows that it works on. There is none where the location moved
-- beyond the address.
abbrev pub Turned : Type 0
Turned = Option RowCursor × TableRows

-- an instruction that was read, with the offset after it, moves the location and has its effect
abbrev pub obeyed : Option StorageLimits → CommonInformationEntry → Option ℕ → ℕ → CallFrameInstruction × ℕ → TableRows
    → Result Turned ReadError
obeyed limits cie address location read rows =
    location_after cie address location read.0 >>= λ moved.
    if is_beyond address moved then Ok (None, rows)
    else (effect limits read.0 rows >>= λ after. Ok (Some (record { next = read.1; location = moved }), after))

-- the instruction at an offset does
abbrev pub turn : Option StorageLimits → InstructionList → ℕ → ℕ → TableRows → Result Turned ReadError
turn limits code at location rows =
    instruction_at code.cie code.bases code.bytes at >>= λ read. obeyed limits code.cie code.address location read rows

-- On Ok the cursor and the rows are those that were wanted; a refusal is the one that was wanted, unless an allocation
-- failed.
abbrev pub Turns : Result (Option RowCursor) ReadError → TableRows → Result Turned ReadError → Type 0
Turns (Ok cursor) new wanted = wanted ≡ Ok (cursor, new)
Turns (Err error) new wanted = error ≢ OutOfMemory → wanted ≡ Err error

-- an instruction does not move the location beyond the address, and needs room
abbrev pub obeying_needs_room : CommonInformationEntry → Option ℕ → ℕ → CallFrameInstruction → Bool
obeying_needs_room cie address location instruction =
    is_ok_and (λ moved. not (is_beyond address moved) && needs_room instruction)
    (location_after cie address location instruction)

-- the instruction at an offset does not, and does
abbrev pub turn_needs_room : InstructionList → ℕ → ℕ → Bool
turn_needs_room code at location =
    is_ok_and (λ read. obeying_needs_room code.cie code.address location read.0)
    (instruction_at code.cie code.bases code.bytes at)
