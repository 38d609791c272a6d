-- Program headers and notes that the first bytes of files tell of, as memory has them (gABI, chapter 5, "Program Header" and
-- "Note Section"). Ranges of memory may share bytes of a dump, and so may they: together they are to be no more than the
-- dump has.
use Rattle.std.specs.Prelude.{ℕ, ◌+◌, ◌-◌, List, [], length, ◌==◌, nat_lt, if◌then◌else◌, Option, Some, None, unwrap_or, Result, Ok, Err}
use Rattle.std.specs.List.{sum_by}
use Rattle.framehop_dump_files.specs.Coredump.MappedFile.{MappedFileView}
use Rattle.framehop_dump_files.specs.declared.coredump.error.CoreFileError.{CoreFileError}
use Rattle.framehop_dump_files.specs.declared.coredump.error.CoreFileError.TheVariants.{SharedHeaders}
use Rattle.framehop_object.specs.Elf.BuildId.{notes_of_segment}
use Rattle.framehop_object.specs.declared.elf.program_header.ProgramHeader.{ProgramHeader}
use Rattle.framehop_memory.specs.Memory.{MemoryView}
use Rattle.framehop_dumps.specs.Image.{head_at, segments_in}

-- the notes of a program header, as far as the first bytes of its file have them
abbrev pub notes_in : List ℕ → ProgramHeader → List ℕ
notes_in head header = unwrap_or (notes_of_segment head header) []

-- how many bytes it has, and its notes
abbrev pub header_size : List ℕ → ProgramHeader → ℕ
header_size head header = 56 + length (notes_in head header)

-- how many those of a file have
abbrev pub headers_size : List ℕ → ℕ
headers_size head = sum_by (header_size head) (segments_in head)

-- what is left of so many bytes after others, if there are as many
abbrev pub left_after : ℕ → ℕ → Option ℕ
left_after left size = if nat_lt left size then None else Some (left - size)

-- how many bytes those of a mapped file have, which are at the mapping of its first byte
abbrev pub mapped_size : MemoryView → MappedFileView → ℕ
mapped_size memory mapped = if mapped.offset == 0 then headers_size (head_at memory mapped.start) else 0

-- mapped files that together have no more of them than memory has bytes
abbrev pub with_own_headers : MemoryView → List MappedFileView → Result (List MappedFileView) CoreFileError
with_own_headers memory files =
    if nat_lt (length memory.file) (sum_by (mapped_size memory) files) then Err SharedHeaders else Ok files
