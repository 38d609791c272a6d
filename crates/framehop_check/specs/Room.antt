-- How much of a file is checked: as much as FDEs take that do not share code, and few instructions of CIEs.
use Rattle.std.specs.Prelude.{ℕ, ◌*◌, ◌-◌, Bool, ◌&&◌, nat_le, if◌then◌else◌}
use Rattle.std.specs.Io.Iter.{u64_saturate}
use Rattle.framehop_cfi.specs.declared.entry.FrameDescriptionEntry.{FrameDescriptionEntry}
use Rattle.framehop_check.specs.declared.room.Room.{Room}

-- twice as many bytes of code as the file has, and four times as many of instructions as its section of rows
abbrev pub room_of : ℕ → ℕ → Room
room_of file_size section_size =
    record { code = u64_saturate (file_size * 2); instructions = u64_saturate (section_size * 4) }

-- the bytes of the instructions of an FDE's CIE
abbrev pub instructions_of : FrameDescriptionEntry → ℕ
instructions_of fde = fde.cie.end - fde.cie.instructions

-- there is as much room as an FDE with its code takes
abbrev pub is_enough : Room → FrameDescriptionEntry → ℕ → Bool
is_enough room fde code_size = nat_le code_size room.code && nat_le (instructions_of fde) room.instructions

-- what is left: all of it, if there is not so much
abbrev pub room_after : Room → FrameDescriptionEntry → ℕ → Room
room_after room fde code_size =
    if is_enough room fde code_size
    then record { code = room.code - code_size; instructions = room.instructions - instructions_of fde }
    else room
