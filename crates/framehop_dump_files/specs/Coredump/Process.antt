-- The process: the note of "CORE" of type NT_PRPSINFO, `struct elf_prpsinfo` of include/linux/elfcore.h.
use Rattle.std.specs.Prelude.{ℕ, List, length, take, drop, Bool, Option, Some, None, Result, Ok, Err, ◌==◌, if◌then◌else◌}
use Rattle.std.specs.List.{find}
use Rattle.framehop_bytes.specs.Bytes.{le4}
use Rattle.framehop_bytes.specs.String.{string_of}
use Rattle.framehop_dump_files.specs.Coredump.Numbers.{CORE, NT_PRPSINFO, PRPSINFO_SIZE, PRPSINFO_PID, PRPSINFO_FNAME}
use Rattle.framehop_dump_files.specs.Coredump.Note.{PlacedView, is_of}
use Rattle.framehop_dump_files.specs.declared.coredump.error.CoreFileError.{CoreFileError}
use Rattle.framehop_dump_files.specs.declared.coredump.error.CoreFileError.TheVariants.{BadNoteSize}
use Rattle.framehop_dump_files.specs.declared.coredump.process.Process.{Process}

-- a process by its values
pub record ProcessView : Type 0 where
  pub pid : ℕ
  pub name : List ℕ

abbrev pub process_view : Process → ProcessView
process_view p = record { pid = p.pid; name = p.name.now }

-- a note of the process
abbrev pub is_process : PlacedView → Bool
is_process placed = is_of CORE NT_PRPSINFO placed

-- pr_pid, and pr_fname, which has 16 bytes, up to its first 0
abbrev pub process_in : List ℕ → ProcessView
process_in descriptor = record {
  pid = le4 descriptor PRPSINFO_PID;
  name = string_of (take 16 (drop PRPSINFO_FNAME descriptor)) 0;
}

-- that of the first such note, if there is one, which must have the size of the struct
abbrev pub process_noted : Option PlacedView → Result (Option ProcessView) CoreFileError
process_noted None = Ok None
process_noted (Some placed) =
    if length placed.note.descriptor == PRPSINFO_SIZE then Ok (Some (process_in placed.note.descriptor))
    else Err (BadNoteSize placed.offset)

-- the process by the first such note, if there is one
abbrev pub process_of : List PlacedView → Result (Option ProcessView) CoreFileError
process_of notes = process_noted (find is_process notes)
