-- Which parts of a core file are read apart: its headers and notes, and its memory.
use Rattle.std.specs.Prelude.{ℕ, ◌≡◌, ◌+◌, ◌*◌, ◌⊎◌, Bool, true, false, nat_le, List, ◌++◌, length, map, max, Option, Some, None, Result, Ok, Err, IsPermutation, if◌then◌else◌}
use Rattle.std.specs.List.{list_any}
use Rattle.std.specs.List.Sorted.{IsNonDecreasingBy}
use Rattle.framehop_object.specs.Elf.Header.{file_header_of}
use Rattle.framehop_object.specs.Elf.Segment.{loaded_segments_of}
use Rattle.framehop_object.specs.declared.elf.error.ElfError.{ElfError}
use Rattle.framehop_object.specs.declared.elf.header.FileHeader.{FileHeader}
use Rattle.framehop_object.specs.declared.elf.program_header.ProgramHeader.{ProgramHeader}
use Rattle.framehop_dump_files.specs.Coredump.CoreFile.{core_file_of}
use Rattle.framehop_dump_files.specs.declared.coredump.core_file.Machine.{Machine}
use Rattle.framehop_dump_files.specs.declared.coredump.mapped_file.MappedFile.{MappedFile}
use Rattle.framehop_dump_files.specs.Coredump.MappedFile.{mapped_file_view, mapped_files_of}
use Rattle.framehop_dump_files.specs.Coredump.Note.{PlacedView, notes_of}
use Rattle.framehop_disk.specs.declared.segments.LoadedSegment.{LoadedSegment}
use Rattle.framehop_disk.specs.declared.wanted.WantedSegment.{WantedSegment}
use Rattle.framehop_disk.specs.ObjectParts.{written}
use Rattle.framehop_disk.specs.Segments.{are_apart, is_cut_off, segments_in, start_of, wanted_beside}

-- ---- headers (System V gABI, "ELF Header" and "Program Header")

-- where the program headers of a file end
abbrev pub end_by : FileHeader → ℕ
end_by header = header.e_phoff + 56 * header.e_phnum

-- the same or where the file header ends, if they are in the first bytes of the file, of which there are at most so many
abbrev pub headers_end_by : ℕ → Result FileHeader ElfError → Option ℕ
headers_end_by most (Err refusal) = None
headers_end_by most (Ok header) = if nat_le (end_by header) most then Some (max (end_by header) 64) else None

abbrev pub headers_end : ℕ → List ℕ → Option ℕ
headers_end most file = headers_end_by most (file_header_of file)

-- program headers are those of a core file
abbrev pub IsOfCore : List ℕ → List ProgramHeader → Type 0
IsOfCore file headers = (machine : Machine) × (core_file_of file ≡ Ok (machine, headers))

-- a front has so many bytes more, and at a place where they are
abbrev pub HasNotes : List ℕ → ℕ → ℕ → List ℕ → Type 0
HasNotes before place size front =
    (notes : List ℕ) × (length notes ≡ size) × (front ≡ written before place (length before) ++ notes)

-- ---- how often more is read

-- up to 16 MiB a core file is small: a whole one is read in the time of a few rounds
abbrev pub most_rounds : ℕ → ℕ
most_rounds size = if nat_le size 0x1000000 then 3 else 16

-- ---- memory

-- the segments of which a file of a size has something, in the order of their addresses
abbrev pub AreOrdered : ℕ → List ProgramHeader → List LoadedSegment → Type 0
AreOrdered size headers segments =
    IsPermutation (segments_in size (loaded_segments_of headers)) segments × IsNonDecreasingBy start_of segments

-- the file lacks some of a segment
abbrev pub lacks_some : ℕ → List ProgramHeader → Bool
lacks_some size headers = list_any (is_cut_off size) (loaded_segments_of headers)

-- it has all of each, and they are apart
abbrev pub AreSegments : ℕ → List ProgramHeader → List LoadedSegment → Type 0
AreSegments size headers segments =
    (lacks_some size headers ≡ false) × AreOrdered size headers segments × (are_apart 0 segments ≡ true)

-- it lacks some, or they are not apart
abbrev pub HasNone : ℕ → List ProgramHeader → Type 0
HasNone size headers =
    (lacks_some size headers ≡ true)
    ⊎ ((segments : List LoadedSegment) × AreOrdered size headers segments × (are_apart 0 segments ≡ false))

-- ---- the files that were mapped

-- files are those that the notes of a core file tell of
abbrev pub AreMapped : List ℕ → List MappedFile → Type 0
AreMapped file files =
    (machine : Machine) × (headers : List ProgramHeader) × (notes : List PlacedView)
    × (core_file_of file ≡ Ok (machine, headers)) × (notes_of file headers ≡ Ok notes)
    × (mapped_files_of notes ≡ Ok (map mapped_file_view files))

-- segments are those that are read apart beside these files
abbrev pub AreBesideFiles : List ℕ → List LoadedSegment → List WantedSegment → Type 0
AreBesideFiles file loaded segments =
    (files : List MappedFile) × AreMapped file files × (segments ≡ wanted_beside files loaded)

-- segments are those that are read apart of a core file of a size, by the front of it
abbrev pub AreApart : List ℕ → List ProgramHeader → ℕ → List WantedSegment → Type 0
AreApart front headers size segments =
    (loaded : List LoadedSegment) × AreSegments size headers loaded × AreBesideFiles front loaded segments

-- the same by program headers that were read
abbrev pub AreApartBy : List ℕ → ℕ → List WantedSegment → Type 0
AreApartBy front size segments = (headers : List ProgramHeader) × AreApart front headers size segments
