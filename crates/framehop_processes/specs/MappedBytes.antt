-- The bytes of the unwind sections of mapped files.
use Rattle.std.specs.Prelude.{ℕ, List, Option, option_map}
use Rattle.framehop_bytes.specs.declared.section.ExplicitModuleSectionInfo.{ExplicitModuleSectionInfo}
use Rattle.framehop_processes.specs.declared.mapped_bytes.MappedBytes.{MappedBytes}
use Rattle.framehop_processes.specs.declared.mapped_bytes.MappedBytes.TheVariants.{Kept, Lent}

-- the bytes, whether they are kept or lent
abbrev pub contents_of : MappedBytes → List ℕ
contents_of (Kept bytes) = bytes.items
contents_of (Lent bytes) = bytes.now

-- those of a section, if there is one
abbrev pub contents_in : Option MappedBytes → Option (List ℕ)
contents_in contents = option_map contents_of contents

-- the sections of a module by the bytes of their data
abbrev pub mapped_sections_view : ExplicitModuleSectionInfo MappedBytes → ExplicitModuleSectionInfo (List ℕ)
mapped_sections_view info = record {
  base_svma = info.base_svma;
  text_svma = info.text_svma;
  text = contents_in info.text;
  stubs_svma = info.stubs_svma;
  stub_helper_svma = info.stub_helper_svma;
  got_svma = info.got_svma;
  unwind_info = contents_in info.unwind_info;
  eh_frame_svma = info.eh_frame_svma;
  eh_frame = contents_in info.eh_frame;
  eh_frame_hdr_svma = info.eh_frame_hdr_svma;
  eh_frame_hdr = contents_in info.eh_frame_hdr;
  debug_frame = contents_in info.debug_frame;
  text_segment_svma = info.text_segment_svma;
  text_segment = contents_in info.text_segment;
}
