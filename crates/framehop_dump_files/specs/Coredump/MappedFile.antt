-- The files that a process had mapped: the note of "CORE" of type NT_FILE, as `fill_files_note` of Linux's
-- fs/binfmt_elf.c writes it.
use Rattle.std.specs.Prelude.{ℕ, ◌+◌, ◌*◌, ◌^◌, List, [], ◌∷◌, length, take, drop, Bool, Option, Some, None, Result, Ok, Err, nat_lt, if◌then◌else◌}
use Rattle.std.specs.List.{find}
use Rattle.std.specs.Simd.{first_chunks}
use Rattle.framehop_bytes.specs.Bytes.{◌>>=◌, le8}
use Rattle.framehop_bytes.specs.String.{string_of}
use Rattle.framehop_dump_files.specs.Coredump.Numbers.{CORE, NT_FILE}
use Rattle.framehop_dump_files.specs.Coredump.Note.{PlacedView, is_of}
use Rattle.framehop_dump_files.specs.declared.coredump.error.CoreFileError.{CoreFileError}
use Rattle.framehop_dump_files.specs.declared.coredump.error.CoreFileError.TheVariants.{ShortNote, OffsetTooBig}
use Rattle.framehop_dump_files.specs.declared.coredump.mapped_file.MappedFile.{MappedFile}

-- a mapped file by its values
pub record MappedFileView : Type 0 where
  pub start : ℕ
  pub end : ℕ
  pub offset : ℕ
  pub path : List ℕ

abbrev pub mapped_file_view : MappedFile → MappedFileView
mapped_file_view m = record { start = m.start; end = m.end; offset = m.offset; path = m.path.now }

-- a note of mapped files
abbrev pub is_files : PlacedView → Bool
is_files placed = is_of CORE NT_FILE placed

-- the path at the front of paths, each of which ends with a 0, and the paths after it
abbrev pub path_at : ℕ → List ℕ → Result (List ℕ × List ℕ) CoreFileError
path_at offset paths =
    let path = string_of paths 0 in
    if nat_lt (length path) (length paths) then Ok (path, drop (length path + 1) paths) else Err (ShortNote offset)

-- a file of an entry: the address at which it begins, that at which it ends, and the offset in pages from which on it is
-- mapped
abbrev pub mapped_file_of : ℕ → ℕ → List ℕ → List ℕ → Result MappedFileView CoreFileError
mapped_file_of offset page_size entry path =
    if nat_lt (le8 entry 16 * page_size) (2 ^ 64)
    then Ok (record { start = le8 entry 0; end = le8 entry 8; offset = le8 entry 16 * page_size; path = path })
    else Err (OffsetTooBig offset)

-- a file for each entry, whose paths come one after another
unfoldable pub files_of : ℕ → ℕ → List (List ℕ) → List ℕ → Result (List MappedFileView) CoreFileError
files_of offset page_size [] paths = Ok []
files_of offset page_size (entry ∷ entries) paths = do
  path ← path_at offset paths
  file ← mapped_file_of offset page_size entry path.0
  others ← files_of offset page_size entries path.1
  Ok (file ∷ others)

-- the entries: as many as a count, of 24 bytes each, after the first 16 bytes
abbrev pub entries_in : List ℕ → ℕ → List (List ℕ)
entries_in descriptor count = first_chunks 24 count (take (24 * count) (drop 16 descriptor))

-- the count of entries and the size of a page; the entries; the paths
unfoldable pub files_in : ℕ → List ℕ → Result (List MappedFileView) CoreFileError
files_in offset descriptor =
    if nat_lt (length descriptor) 16 then Err (ShortNote offset)
    else if nat_lt (length descriptor) (16 + 24 * le8 descriptor 0) then Err (ShortNote offset)
    else files_of offset (le8 descriptor 8) (entries_in descriptor (le8 descriptor 0))
    (drop (16 + 24 * le8 descriptor 0) descriptor)

-- those of the first such note, if there is one
abbrev pub files_noted : Option PlacedView → Result (List MappedFileView) CoreFileError
files_noted None = Ok []
files_noted (Some placed) = files_in placed.offset placed.note.descriptor

-- the files of the first such note, or none where there is none
abbrev pub mapped_files_of : List PlacedView → Result (List MappedFileView) CoreFileError
mapped_files_of notes = files_noted (find is_files notes)
