-- The sections of a file that an unwinder needs, by their names.
-- (gABI, chapter 4, "Special Sections"; LSB Core, "Exception Frames".)
use Rattle.std.specs.Prelude.{ℕ, ◌+◌, ◌-◌, ◌^◌, ◌==◌, if◌then◌else◌, Bool, List, codes, Option, Some, None, is_some, option_map, option_and_then, Result, Ok, Err, min, Vec}
use Rattle.std.specs.Result.{result_ok, result_map_both}
use Rattle.std.specs.declared.alloc.Global.{Global}
use Rattle.std.specs.declared.ops.Range.{Range}
use Rattle.framehop_bytes.specs.declared.section.ExplicitModuleSectionInfo.{ExplicitModuleSectionInfo}
use Rattle.framehop_object.specs.Elf.Decompressed.{decompressed_of}
use Rattle.framehop_object.specs.Elf.Numbers.{SHT_NOBITS}
use Rattle.framehop_object.specs.Elf.ElfFile.{ElfFile, section_called}
use Rattle.framehop_object.specs.Elf.Section.{contents_of}
use Rattle.framehop_object.specs.declared.elf.decompressed.ContentsError.{ContentsError}
use Rattle.framehop_object.specs.declared.elf.decompressed.ContentsError.TheVariants.{OlderForm}
use Rattle.framehop_object.specs.declared.elf.section_header.SectionHeader.{SectionHeader}

-- where a section is; one that ends above the last address ends at it
abbrev pub range_in : SectionHeader → Range ℕ
range_in section = record { start = section.sh_addr; end = min (section.sh_addr + section.sh_size) (2 ^ 64 - 1) }

-- a section, and what it holds
abbrev pub Stored : Type 0
Stored = SectionHeader × List ℕ

-- what the file holds of a section: nothing where it has no bytes in the file, or its contents are refused
abbrev pub stored_in : List ℕ → SectionHeader → Option (List ℕ)
stored_in file section = if section.sh_type == SHT_NOBITS then None else result_ok (contents_of file section)

-- the section of a name, if the file holds it
abbrev pub stored_called : ElfFile → List ℕ → Option Stored
stored_called elf name =
    option_and_then (λ section. option_map (λ contents. (section, contents)) (stored_in elf.bytes section))
    (section_called elf name)

-- the addresses of a section, and its bytes
abbrev pub range_of : Option Stored → Option (Range ℕ)
range_of stored = option_map (λ s. range_in s.0) stored

abbrev pub data_of : Option Stored → Option (List ℕ)
data_of stored = option_map (λ s. s.1) stored

-- what a section holds, if the file has bytes of it: it is decompressed, where it is compressed
abbrev pub held_in : List ℕ → SectionHeader → Result (Option (List ℕ)) ContentsError
held_in file section =
    if section.sh_type == SHT_NOBITS then Ok None else result_map_both (λ bytes. Some bytes) (λ error. error) (decompressed_of file section)

-- that of `.debug_frame`, if there is one; GNU's older form of compression, in which it is called `.zdebug_frame`, is not
-- read
abbrev pub debug_frame_by : List ℕ → Option SectionHeader → Option SectionHeader → Result (Option (List ℕ)) ContentsError
debug_frame_by file (Some section) older = held_in file section
debug_frame_by file None (Some older) = Err OlderForm
debug_frame_by file None None = Ok None

abbrev pub debug_frame_of : ElfFile → Result (Option (List ℕ)) ContentsError
debug_frame_of elf =
    debug_frame_by elf.bytes (section_called elf (codes ".debug_frame")) (section_called elf (codes ".zdebug_frame"))

-- the bytes, none where they can't be had
abbrev pub bytes_or_none : Result (Option (List ℕ)) ContentsError → Option (List ℕ)
bytes_or_none (Ok bytes) = bytes
bytes_or_none (Err error) = None

-- What an unwinder is to know of a file: where its code and its global offset table are, and the call frame sections that
-- the file holds, with these bytes of `.debug_frame`. One that is refused counts as absent.
abbrev pub unwind_sections_of : ElfFile → Option (List ℕ) → ExplicitModuleSectionInfo (List ℕ)
unwind_sections_of elf debug_frame =
    let eh_frame = stored_called elf (codes ".eh_frame") in
    let eh_frame_hdr = stored_called elf (codes ".eh_frame_hdr") in
    record {
      base_svma = 0;
      text_svma = option_map range_in (section_called elf (codes ".text"));
      text = None;
      stubs_svma = None;
      stub_helper_svma = None;
      got_svma = option_map range_in (section_called elf (codes ".got"));
      unwind_info = None;
      eh_frame_svma = range_of eh_frame;
      eh_frame = data_of eh_frame;
      eh_frame_hdr_svma = range_of eh_frame_hdr;
      eh_frame_hdr = data_of eh_frame_hdr;
      debug_frame = debug_frame;
      text_segment_svma = None;
      text_segment = None;
    }

-- the file holds `.eh_frame`
abbrev pub has_eh_frame : ElfFile → Bool
has_eh_frame elf = is_some (stored_called elf (codes ".eh_frame"))

-- what it is to know of these bytes of `.debug_frame` only
abbrev pub debug_frame_sections_of : ElfFile → Option (List ℕ) → ExplicitModuleSectionInfo (List ℕ)
debug_frame_sections_of elf debug_frame = record {
  base_svma = 0;
  text_svma = option_map range_in (section_called elf (codes ".text"));
  text = None;
  stubs_svma = None;
  stub_helper_svma = None;
  got_svma = option_map range_in (section_called elf (codes ".got"));
  unwind_info = None;
  eh_frame_svma = None;
  eh_frame = None;
  eh_frame_hdr_svma = None;
  eh_frame_hdr = None;
  debug_frame = debug_frame;
  text_segment_svma = None;
  text_segment = None;
}

-- the bytes of data, if there are some
abbrev pub bytes_in : Option (Vec ℕ Global) → Option (List ℕ)
bytes_in contents = option_map (λ (bytes : Vec ℕ Global). bytes.items) contents

-- the sections of a module by the bytes of their data
abbrev pub sections_view : ExplicitModuleSectionInfo (Vec ℕ Global) → ExplicitModuleSectionInfo (List ℕ)
sections_view info = record {
  base_svma = info.base_svma;
  text_svma = info.text_svma;
  text = bytes_in info.text;
  stubs_svma = info.stubs_svma;
  stub_helper_svma = info.stub_helper_svma;
  got_svma = info.got_svma;
  unwind_info = bytes_in info.unwind_info;
  eh_frame_svma = info.eh_frame_svma;
  eh_frame = bytes_in info.eh_frame;
  eh_frame_hdr_svma = info.eh_frame_hdr_svma;
  eh_frame_hdr = bytes_in info.eh_frame_hdr;
  debug_frame = bytes_in info.debug_frame;
  text_segment_svma = info.text_segment_svma;
  text_segment = bytes_in info.text_segment;
}
