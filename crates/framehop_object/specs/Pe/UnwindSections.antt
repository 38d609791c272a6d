-- The sections of a file that an unwinder needs ("PE Format", "Special Sections" and "The .pdata Section").
use Rattle.std.specs.Prelude.{ℕ, ◌+◌, ◌-◌, ◌^◌, List, [], ◌∷◌, codes, Option, option_map, option_and_then, min}
use Rattle.std.specs.Option.{option_or}
use Rattle.std.specs.Result.{result_ok}
use Rattle.std.specs.declared.ops.Range.{Range}
use Rattle.framehop_bytes.specs.SectionTable.{SectionTable}
use Rattle.framehop_bytes.specs.ExplicitSections.{under}
use Rattle.framehop_object.specs.Pe.PeFile.{PeFile}
use Rattle.framehop_object.specs.Pe.Rva.{bytes_at}
use Rattle.framehop_object.specs.Pe.Section.{contents_of, section_called}
use Rattle.framehop_object.specs.declared.pe.header.DataDirectory.{DataDirectory}
use Rattle.framehop_object.specs.declared.pe.section_header.SectionHeader.{SectionHeader}
use Rattle.framehop_object.specs.declared.pe.unwind_sections.Part.{Part}
use Rattle.framehop_object.specs.declared.pe.unwind_sections.PeUnwindSections.{PeUnwindSections}

-- each section under its name; a PE file has no segments
abbrev pub table_of : {D : Type 0} → PeUnwindSections D → SectionTable D
table_of info = record {
  base_svma = info.base_svma;
  sections =
      under (codes ".pdata" ∷ []) info.pdata_svma info.pdata
      ∷ under (codes ".rdata" ∷ []) info.rdata_svma info.rdata
      ∷ under (codes ".xdata" ∷ []) info.xdata_svma info.xdata
      ∷ under (codes ".text" ∷ []) info.text_svma info.text
      ∷ [];
  segments = [];
}

-- a part of the image: its RVA, its size in memory, and what the file has of it
pub record PartView : Type 0 where
  pub rva : ℕ
  pub size : ℕ
  pub contents : List ℕ

abbrev pub part_view : Part → PartView
part_view part = record { rva = part.rva; size = part.size; contents = part.contents.now }

-- an address above the last one is the last one
abbrev pub address : ℕ → ℕ
address sum = min sum (2 ^ 64 - 1)

-- where a part is, by the base of the image
abbrev pub range_in : ℕ → PartView → Range ℕ
range_in base part = record { start = address (base + part.rva); end = address (base + part.rva + part.size) }

-- a section, if the file holds it
abbrev pub part_in : List ℕ → SectionHeader → Option PartView
part_in file section =
    option_map (λ contents. record { rva = section.virtual_address; size = section.virtual_size; contents = contents })
    (result_ok (contents_of file section))

-- the first section of a name, if the file holds it
abbrev pub part_called : PeFile → List ℕ → Option PartView
part_called pe name = option_and_then (part_in pe.bytes) (section_called pe.sections name)

-- what a data directory names, if the file holds it
abbrev pub part_of_directory : PeFile → DataDirectory → Option PartView
part_of_directory pe directory =
    option_map (λ contents. record { rva = directory.virtual_address; size = directory.size; contents = contents })
    (result_ok (bytes_at pe directory.virtual_address directory.size))

-- the function table that the data directory of exceptions names
abbrev pub exception_part : PeFile → Option PartView
exception_part pe = option_and_then (part_of_directory pe) pe.header.exception_directory

-- the function table: the section .pdata, or else what the data directory of exceptions names
abbrev pub pdata_of : PeFile → Option PartView
pdata_of pe =
    option_or (part_called pe (codes ".pdata")) (exception_part pe)

-- the addresses of a part, from the base on, and its bytes
abbrev pub range_of : ℕ → Option PartView → Option (Range ℕ)
range_of base part = option_map (range_in base) part

abbrev pub data_of : Option PartView → Option (List ℕ)
data_of part = option_map (λ (p : PartView). p.contents) part

-- what an unwinder is to know of a file
abbrev pub unwind_sections_of : PeFile → PeUnwindSections (List ℕ)
unwind_sections_of pe =
    let base = pe.header.image_base in
    let pdata = pdata_of pe in
    let rdata = part_called pe (codes ".rdata") in
    let xdata = part_called pe (codes ".xdata") in
    let text = part_called pe (codes ".text") in
    record {
      base_svma = base;
      pdata_svma = range_of base pdata;
      pdata = data_of pdata;
      rdata_svma = range_of base rdata;
      rdata = data_of rdata;
      xdata_svma = range_of base xdata;
      xdata = data_of xdata;
      text_svma = range_of base text;
      text = data_of text;
    }

-- the sections of a module by the bytes of their data
abbrev pub sections_view : {D : Type 0} → (D → List ℕ) → PeUnwindSections D → PeUnwindSections (List ℕ)
sections_view bytes info = record {
  base_svma = info.base_svma;
  pdata_svma = info.pdata_svma;
  pdata = option_map bytes info.pdata;
  rdata_svma = info.rdata_svma;
  rdata = option_map bytes info.rdata;
  xdata_svma = info.xdata_svma;
  xdata = option_map bytes info.xdata;
  text_svma = info.text_svma;
  text = option_map bytes info.text;
}
