-- The threads of a process: notes of "CORE" of type NT_PRSTATUS, `struct elf_prstatus` of include/linux/elfcore.h.
-- Linux writes them by `write_note_info` of fs/binfmt_elf.c; the masks are `struct user_pac_mask` of
-- arch/arm64/include/uapi/asm/ptrace.h.
use Rattle.std.specs.Prelude.{ℕ, List, [], ◌∷◌, length, take, drop, Bool, not, Option, Some, None, Result, Ok, Err, ◌==◌, if◌then◌else◌}
use Rattle.std.specs.List.{find, before_first}
use Rattle.framehop_bytes.specs.Bytes.{◌>>=◌, le2, le4, le8}
use Rattle.framehop_dump_files.specs.Coredump.Numbers.{CORE, LINUX, NT_PRSTATUS, NT_ARM_PAC_MASK, PR_CURSIG, PR_PID, PR_REG, PAC_MASK_SIZE, INSN_MASK}
use Rattle.framehop_dump_files.specs.Coredump.Note.{PlacedView, is_of}
use Rattle.framehop_dump_files.specs.Coredump.SignalInfo.{is_signal_info, signal_info_of}
use Rattle.framehop_dump_files.specs.declared.coredump.core_file.Machine.{Machine}
use Rattle.framehop_dump_files.specs.declared.coredump.core_file.Machine.TheVariants.{X86_64, Aarch64}
use Rattle.framehop_dump_files.specs.declared.coredump.error.CoreFileError.{CoreFileError}
use Rattle.framehop_dump_files.specs.declared.coredump.error.CoreFileError.TheVariants.{BadNoteSize}
use Rattle.framehop_dump_files.specs.declared.coredump.signal_info.SignalInfo.{SignalInfo}
use Rattle.framehop_dump_files.specs.declared.coredump.thread.Thread.{Thread}

-- a thread by its values
pub record ThreadView : Type 0 where
  pub offset : ℕ
  pub tid : ℕ
  pub signal : ℕ
  pub info : Option SignalInfo
  pub registers : List ℕ
  pub pac_mask : Option ℕ

abbrev pub thread_view : Thread → ThreadView
thread_view t = record {
  offset = t.offset;
  tid = t.tid;
  signal = t.signal;
  info = t.info;
  registers = t.registers.now;
  pac_mask = t.pac_mask;
}

-- the registers: 27 of x86_64, 34 of aarch64, of eight bytes each; and the size of the struct in which they are
abbrev pub registers_size : Machine → ℕ
registers_size X86_64 = 216
registers_size Aarch64 = 272

abbrev pub prstatus_size : Machine → ℕ
prstatus_size X86_64 = 336
prstatus_size Aarch64 = 392

-- a note that begins a thread, and one that has its masks
abbrev pub is_thread : PlacedView → Bool
is_thread placed = is_of CORE NT_PRSTATUS placed

abbrev pub is_pac_mask : PlacedView → Bool
is_pac_mask placed = is_of LINUX NT_ARM_PAC_MASK placed

-- the bits of an address of code that are its signature, by such a note if there is one
abbrev pub pac_mask_of : Option PlacedView → Result (Option ℕ) CoreFileError
pac_mask_of None = Ok None
pac_mask_of (Some placed) =
    if length placed.note.descriptor == PAC_MASK_SIZE then Ok (Some (le8 placed.note.descriptor INSN_MASK))
    else Err (BadNoteSize placed.offset)

-- the fields that are read of the struct
abbrev pub fields_of : Machine → PlacedView → Option SignalInfo → Option ℕ → ThreadView
fields_of machine placed info pac_mask = record {
  offset = placed.offset;
  tid = le4 placed.note.descriptor PR_PID;
  signal = le2 placed.note.descriptor PR_CURSIG;
  info = info;
  registers = take (registers_size machine) (drop PR_REG placed.note.descriptor);
  pac_mask = pac_mask;
}

-- the first note of a kind among those of a thread, which these come after: up to the next thread's
abbrev pub note_in : (PlacedView → Bool) → List PlacedView → Option PlacedView
note_in is_kind later = find is_kind (before_first is_thread later)

-- The thread of a note, which other notes come after. Those up to the next thread's are this thread's.
unfoldable pub thread_of : Machine → PlacedView → List PlacedView → Result ThreadView CoreFileError
thread_of machine placed later =
    if not (length placed.note.descriptor == prstatus_size machine) then Err (BadNoteSize placed.offset) else (do
      pac_mask ← pac_mask_of (note_in is_pac_mask later)
      Ok (fields_of machine placed (signal_info_of (note_in is_signal_info later)) pac_mask))

-- the threads of a process, in the order of their notes
unfoldable pub threads_of : Machine → List PlacedView → Result (List ThreadView) CoreFileError
threads_of machine [] = Ok []
threads_of machine (placed ∷ later) =
    if is_thread placed then (do
      thread ← thread_of machine placed later
      others ← threads_of machine later
      Ok (thread ∷ others)) else threads_of machine later
