-- The segments of a file that are loaded (gABI, chapter 5, "Program Header").
-- The fields are p_type and p_flags.
use Rattle.std.specs.Prelude.{List, [], ◌∷◌, Bool, not, bit_and, ◌==◌, if◌then◌else◌}
use Rattle.std.specs.List.{flat_map}
use Rattle.framehop_object.specs.Elf.Numbers.{PT_LOAD, PF_X}
use Rattle.framehop_object.specs.declared.elf.program_header.ProgramHeader.{ProgramHeader}
use Rattle.framehop_memory.specs.declared.segment.Segment.{Segment}

-- a segment is loaded
abbrev pub is_loaded : ProgramHeader → Bool
is_loaded header = header.p_type == PT_LOAD

-- where it is in the file and in memory, and whether it may be executed (PF_X)
abbrev pub segment_of : ProgramHeader → Segment
segment_of header = record {
  address = header.p_vaddr;
  size = header.p_memsz;
  offset = header.p_offset;
  file_size = header.p_filesz;
  is_code = not (bit_and header.p_flags PF_X == 0);
}

abbrev pub loaded_if : ProgramHeader → List Segment
loaded_if header = if is_loaded header then segment_of header ∷ [] else []

-- those that are loaded, in their order
abbrev pub loaded_segments_of : List ProgramHeader → List Segment
loaded_segments_of headers = flat_map loaded_if headers
