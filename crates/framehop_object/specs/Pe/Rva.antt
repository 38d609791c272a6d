-- Where the bytes of an image are in its file ("PE Format", "relative virtual address (RVA)" and "file pointer").
-- The headers: "Optional Header", SizeOfHeaders.
use Rattle.std.specs.Prelude.{ℕ, ◌+◌, ◌-◌, List, Bool, Option, Some, None, Result, Err, nat_le, ◌&&◌, if◌then◌else◌}
use Rattle.std.specs.List.{find}
use Rattle.framehop_object.specs.Pe.Block.{block_at}
use Rattle.framehop_object.specs.Pe.PeFile.{PeFile}
use Rattle.framehop_object.specs.Pe.Section.{size_in_file}
use Rattle.framehop_object.specs.declared.pe.error.PeError.{PeError}
use Rattle.framehop_object.specs.declared.pe.error.PeError.TheVariants.{NotInSection}
use Rattle.framehop_object.specs.declared.pe.section_header.SectionHeader.{SectionHeader}

-- the file has so many bytes of a section from an RVA on
abbrev pub holds : ℕ → ℕ → SectionHeader → Bool
holds rva size section =
    nat_le section.virtual_address rva && nat_le (rva + size) (section.virtual_address + size_in_file section)

-- the first section that has them
abbrev pub section_with : List SectionHeader → ℕ → ℕ → Option SectionHeader
section_with sections rva size = find (holds rva size) sections

-- they are as far from PointerToRawData as the RVA is from VirtualAddress
abbrev pub bytes_in : List ℕ → ℕ → ℕ → Option SectionHeader → Result (List ℕ) PeError
bytes_in file rva size None = Err (NotInSection rva)
bytes_in file rva size (Some section) = block_at file (section.pointer_to_raw_data + (rva - section.virtual_address)) size

-- the bytes of the image from an RVA on: the headers, of SizeOfHeaders, are at the front of both
abbrev pub bytes_at : PeFile → ℕ → ℕ → Result (List ℕ) PeError
bytes_at pe rva size =
    if nat_le (rva + size) pe.header.size_of_headers then block_at pe.bytes rva size
    else bytes_in pe.bytes rva size (section_with pe.sections rva size)
