-- What is told of a signal: the note of "CORE" of type NT_SIGINFO, a `siginfo_t` of include/uapi/asm-generic/siginfo.h.
use Rattle.std.specs.Prelude.{ℕ, List, length, Bool, Option, Some, None, ◌==◌, if◌then◌else◌}
use Rattle.framehop_bytes.specs.Bytes.{le4, le8}
use Rattle.framehop_dump_files.specs.Coredump.Numbers.{CORE, NT_SIGINFO, SIGINFO_SIZE, SI_SIGNO, SI_CODE, SI_FIELDS}
use Rattle.framehop_dump_files.specs.Coredump.Note.{PlacedView, is_of}
use Rattle.framehop_dump_files.specs.declared.coredump.signal_info.SignalInfo.{SignalInfo}

-- a note of a signal
abbrev pub is_signal_info : PlacedView → Bool
is_signal_info placed = is_of CORE NT_SIGINFO placed

-- si_signo, si_code, and the first eight bytes of the union
abbrev pub signal_info_in : List ℕ → SignalInfo
signal_info_in descriptor = record {
  signal = le4 descriptor SI_SIGNO;
  code = le4 descriptor SI_CODE;
  fields = le8 descriptor SI_FIELDS;
}

-- that of a note, if there is one, and it has the size of the struct
abbrev pub signal_info_of : Option PlacedView → Option SignalInfo
signal_info_of None = None
signal_info_of (Some placed) =
    if length placed.note.descriptor == SIGINFO_SIZE then Some (signal_info_in placed.note.descriptor) else None
