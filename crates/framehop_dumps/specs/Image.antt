-- What the memory of a process has of the files that it had mapped (gABI, chapter 5, "Program Loading"; `core(5)`).
-- First pages of files: bit 4 of `coredump_filter`. Where the call frames are: LSB Core, "Exception Frames" and
-- "Program Header".
use Rattle.std.specs.Prelude.{ℕ, ◌+◌, ◌-◌, ◌^◌, nat_lt, min, length, List, [], Bool, ◌==◌, if◌then◌else◌, Option, Some, None, option_map, option_and_then, unwrap_or, Result}
use Rattle.std.specs.List.{find}
use Rattle.std.specs.Result.{result_ok}
use Rattle.std.specs.declared.ops.Range.{Range}
use Rattle.framehop_bytes.specs.Bytes.{◌>>=◌}
use Rattle.framehop_cfi.specs.Header.{layout_of}
use Rattle.framehop_cfi.specs.Layout.{Layout}
use Rattle.framehop_bytes.specs.declared.section.ExplicitModuleSectionInfo.{ExplicitModuleSectionInfo}
use Rattle.framehop_object.specs.Elf.BuildId.{build_id_of_file}
use Rattle.framehop_object.specs.Elf.Header.{file_header_of}
use Rattle.framehop_object.specs.Elf.ProgramHeader.{program_headers_of}
use Rattle.framehop_object.specs.declared.elf.error.ElfError.{ElfError}
use Rattle.framehop_object.specs.declared.elf.program_header.ProgramHeader.{ProgramHeader}
use Rattle.framehop_memory.specs.Memory.{MemoryView, bytes_of, bytes_after}
use Rattle.framehop_dumps.specs.declared.image.CallFrames.{CallFrames}

-- p_type of the segment that has `.eh_frame_hdr` (LSB Core, "Program Header": PT_GNU_EH_FRAME)
abbrev pub PT_GNU_EH_FRAME : ℕ
PT_GNU_EH_FRAME = 0x6474e550

-- the bytes from an address on, as far as memory has them
abbrev pub head_at : MemoryView → ℕ → List ℕ
head_at memory address = unwrap_or (bytes_after memory address) []

-- the program headers in the first bytes of a file, if they can be read
unfoldable pub headers_in : List ℕ → Result (List ProgramHeader) ElfError
headers_in head = do
  header ← file_header_of head
  program_headers_of head header

-- none where they can't
abbrev pub segments_in : List ℕ → List ProgramHeader
segments_in head = unwrap_or (result_ok (headers_in head)) []

-- the build id in the first bytes of a file, or no bytes
abbrev pub build_id_in : List ℕ → List ProgramHeader → List ℕ
build_id_in head segments = unwrap_or (build_id_of_file head segments []) []

-- a program header that names `.eh_frame_hdr`
abbrev pub is_eh_frame_header : ProgramHeader → Bool
is_eh_frame_header segment = segment.p_type == PT_GNU_EH_FRAME

-- the first such one
abbrev pub eh_frame_header : List ProgramHeader → Option ProgramHeader
eh_frame_header segments = find is_eh_frame_header segments

-- where a stated address is of what lies at a base
abbrev pub avma_at : ℕ → ℕ → Option ℕ
avma_at base svma = if nat_lt (base + svma) (2 ^ 64) then Some (base + svma) else None

-- so many bytes there
abbrev pub memory_at : MemoryView → ℕ → ℕ → ℕ → Option (List ℕ)
memory_at memory base svma size =
    option_and_then (λ avma. bytes_of memory avma size) (avma_at base svma)

-- the bytes from there on
abbrev pub memory_after : MemoryView → ℕ → ℕ → Option (List ℕ)
memory_after memory base svma =
    option_and_then (λ avma. bytes_after memory avma) (avma_at base svma)

-- the call frame sections of a file, and where they begin
pub record CallFramesView : Type 0 where
  pub header_svma : ℕ
  pub header : List ℕ
  pub frames_svma : ℕ
  pub frames : List ℕ

abbrev pub call_frames_view : CallFrames → CallFramesView
call_frames_view c = record {
  header_svma = c.header_svma;
  header = c.header.now;
  frames_svma = c.frames_svma;
  frames = c.frames.now;
}

-- `.eh_frame`, as far as memory has what is after the address that its header tells
abbrev pub frames_by : MemoryView → ℕ → ℕ → List ℕ → Option Layout → Option CallFramesView
frames_by memory base svma header (Some layout) =
    option_map
    (λ frames. record { header_svma = svma; header = header; frames_svma = layout.eh_frame_pointer; frames = frames })
    (memory_after memory base layout.eh_frame_pointer)
frames_by memory base svma header None = None

-- after the header, whose pointers count from where it is
abbrev pub frames_after : MemoryView → ℕ → ℕ → Option (List ℕ) → Option CallFramesView
frames_after memory base svma (Some header) =
    frames_by memory base svma header
    (result_ok (layout_of (record { section = svma; text = 0; «data» = svma }) header))
frames_after memory base svma None = None

-- `.eh_frame_hdr` and `.eh_frame` of a file that lies at a base, if memory has them
abbrev pub frames_behind : MemoryView → ℕ → Option ProgramHeader → Option CallFramesView
frames_behind memory base (Some segment) =
    frames_after memory base segment.p_vaddr (memory_at memory base segment.p_vaddr segment.p_memsz)
frames_behind memory base None = None

-- where bytes are from a stated address on; what ends above the last address ends at it
abbrev pub range_of : ℕ → List ℕ → Range ℕ
range_of svma bytes = record { start = svma; end = min (svma + length bytes) (2 ^ 64 - 1) }

-- What an unwinder is to know of call frame sections: nothing but where they are and what they hold.
abbrev pub sections_of : Option CallFramesView → ExplicitModuleSectionInfo (List ℕ)
sections_of found = record {
  base_svma = 0;
  text_svma = None;
  text = None;
  stubs_svma = None;
  stub_helper_svma = None;
  got_svma = None;
  unwind_info = None;
  eh_frame_svma = option_map (λ c. range_of c.frames_svma c.frames) found;
  eh_frame = option_map (λ c. c.frames) found;
  eh_frame_hdr_svma = option_map (λ c. range_of c.header_svma c.header) found;
  eh_frame_hdr = option_map (λ c. c.header) found;
  debug_frame = None;
  text_segment_svma = None;
  text_segment = None;
}

-- the unwind sections of a file of these first bytes that lies at a base, as memory has them
abbrev pub sections_in : MemoryView → List ℕ → ℕ → ExplicitModuleSectionInfo (List ℕ)
sections_in memory head base = sections_of (frames_behind memory base (eh_frame_header (segments_in head)))
