-- The auxiliary vector: the note of "CORE" of type NT_AUXV, entries of a type and a value, of a word each
-- (include/uapi/linux/auxvec.h; vdso(7)).
use Rattle.std.specs.Prelude.{ℕ, ◌+◌, ◌*◌, ◌/◌, ◌==◌, Bool, List, length, Option, option_map, option_and_then}
use Rattle.std.specs.List.{find, range_with_len}
use Rattle.framehop_bytes.specs.Bytes.{le8}
use Rattle.framehop_dump_files.specs.Coredump.Note.{PlacedView, is_of}
use Rattle.framehop_dump_files.specs.Coredump.Numbers.{CORE, NT_AUXV, AT_SYSINFO_EHDR}

-- the entry of a number is of a type
abbrev pub is_entry : List ℕ → ℕ → ℕ → Bool
is_entry vector a_type number = le8 vector (number * 16) == a_type

-- the value of the first entry of a type
abbrev pub value_of : ℕ → List ℕ → Option ℕ
value_of a_type vector =
    option_map (λ number. le8 vector (number * 16 + 8)) (find (is_entry vector a_type) (range_with_len 0 (length vector / 16)))

-- where the vdso begins
abbrev pub vdso_of : List PlacedView → Option ℕ
vdso_of notes =
    option_and_then (λ placed. value_of AT_SYSINFO_EHDR placed.note.descriptor) (find (is_of CORE NT_AUXV) notes)
