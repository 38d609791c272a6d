-- What a file is, and what a system tells of one.
use Rattle.std.specs.Prelude.{ℕ, Bool, ◌||◌, nat_eq, List, [], ◌∷◌, ◌++◌, codes, if◌then◌else◌}
use Rattle.std.specs.List.{starts_with}
use Rattle.std.specs.Cmp.Lexicographic.{pointwise}
use Rattle.framehop_folded.specs.Text.{is_text}
use Rattle.framehop_disk.specs.declared.input.Kind.{Kind}
use Rattle.framehop_disk.specs.declared.input.Kind.TheVariants.{Recording, Core, Minidump, Folded, Compressed, Unknown}

-- what a file is: one that is compressed with the program that undoes it
pub data FileKind : Type 0 where
  recording : FileKind
  core : FileKind
  minidump : FileKind
  folded : FileKind
  undone_by : List ℕ → FileKind
  unknown : FileKind

abbrev pub kind_view : Kind → FileKind
kind_view Recording = recording
kind_view Core = core
kind_view Minidump = minidump
kind_view Folded = folded
kind_view (Compressed program) = undone_by program.now
kind_view Unknown = unknown

abbrev pub begins : List ℕ → List ℕ → Bool
begins magic bytes = starts_with nat_eq bytes magic

-- By its first bytes: ELF (System V gABI, "ELF Identification"), a minidump (Microsoft, `MINIDUMP_HEADER`), gzip (RFC 1952, 2.3.1),
-- Zstandard (RFC 8878, 3.1.1), xz ("The .xz File Format", 2.1.1.1), perf.data (Linux, perf.data-file-format.txt), or text.
abbrev pub kind_of : List ℕ → FileKind
kind_of bytes =
    if begins (127 ∷ codes "ELF") bytes then core
    else if begins (codes "MDMP") bytes then minidump
    else if begins (0x1f ∷ 0x8b ∷ []) bytes then undone_by (codes "gzip -d")
    else if begins (0x28 ∷ 0xb5 ∷ 0x2f ∷ 0xfd ∷ []) bytes then undone_by (codes "zstd -d")
    else if begins (0xfd ∷ (codes "7zXZ" ++ 0 ∷ [])) bytes then undone_by (codes "xz -d")
    else if begins (codes "PERFILE2") bytes then recording
    else if is_text bytes then folded else unknown

-- what is read by a path: `-` is standard input
abbrev pub input_name : List ℕ → List ℕ
input_name path = if pointwise nat_eq path (codes "-") then codes "standard input" else path

-- a terminal (Linux, Documentation/admin-guide/devices.txt)
abbrev pub is_terminal_path : List ℕ → Bool
is_terminal_path path = begins (codes "/dev/pts/") path || begins (codes "/dev/tty") path
