-- What is kept of the files that processes map, ELF files and PE files, by their bytes.
-- What a PE file is: Microsoft, "PE Format", by the readers of `framehop_object`.
use Rattle.std.specs.Prelude.{◌≡◌, ◌⊎◌, ℕ, ◌-◌, nat_eq, nat_le, nat_lt, bit_and, ◌==◌, List, [], ◌∷◌, ◌++◌, map, take, drop, codes, Bool, false, not, ◌&&◌, ◌||◌, length, if◌then◌else◌, Option, Some, None, option_to_list, unwrap_or, Result, Ok, Err}
use Rattle.std.specs.List.{starts_with, filter, list_any}
use Rattle.std.specs.Cmp.Lexicographic.{pointwise}
use Rattle.std.specs.List.Sorted.{IsPermutation, IsStableByKey}
use Rattle.std.specs.Ordering.{nat_cmp}
use Rattle.std.specs.Result.{result_ok, result_err}
use Rattle.framehop_bytes.specs.Bytes.{◌>>=◌}
use Rattle.framehop_bytes.specs.ExplicitSections.{table_of}
use Rattle.framehop_bytes.specs.declared.section.ExplicitModuleSectionInfo.{ExplicitModuleSectionInfo}
use Rattle.framehop_object.specs.Elf.BuildId.{build_id_of_file}
use Rattle.framehop_object.specs.Elf.Header.{file_header_of}
use Rattle.framehop_object.specs.Elf.Numbers.{SHT_NOBITS}
use Rattle.framehop_object.specs.Elf.ProgramHeader.{program_headers_of}
use Rattle.framehop_object.specs.Elf.Segment.{loaded_segments_of}
use Rattle.framehop_object.specs.Elf.ElfFile.{ElfFile, elf_file_with, section_called}
use Rattle.framehop_object.specs.Elf.Section.{contents_of as contents_in}
use Rattle.framehop_bytes.specs.String.{before_nul}
use Rattle.framehop_object.specs.Elf.Symbol.{start_of, function_symbols_of, labels_of, symbol_names_of}
use Rattle.framehop_object.specs.Elf.UnwindSections.{unwind_sections_of, debug_frame_of, bytes_or_none, has_eh_frame, debug_frame_sections_of}
use Rattle.framehop_object.specs.declared.elf.decompressed.ContentsError.{ContentsError}
use Rattle.framehop_object.specs.declared.elf.error.ElfError.{ElfError}
use Rattle.framehop_object.specs.declared.elf.program_header.ProgramHeader.{ProgramHeader}
use Rattle.framehop_object.specs.declared.elf.section_header.SectionHeader.{SectionHeader}
use Rattle.framehop_object.specs.declared.elf.symbol.Symbol.{Symbol}
use Rattle.framehop_object.specs.declared.elf.error.ElfError.TheVariants.{OutOfMemory as ElfOutOfMemory}
use Rattle.framehop_memory.specs.declared.segment.Segment.{Segment}
use Rattle.framehop_object.specs.Pe.CodeView.{RsdsView, rsds_of}
use Rattle.framehop_object.specs.Pe.Exports.{directory_bytes_of}
use Rattle.framehop_object.specs.Pe.Header.{is_pe}
use Rattle.framehop_object.specs.Pe.PeFile.{PeFile, pe_file_of}
use Rattle.framehop_object.specs.Pe.UnwindSections.{table_of as pe_table_of, unwind_sections_of as pe_unwind_sections_of}
use Rattle.framehop_object.specs.declared.pe.error.PeError.{PeError}
use Rattle.framehop_object.specs.declared.pe.error.PeError.TheVariants.{OutOfMemory as PeOutOfMemory}
use Rattle.framehop_object.specs.declared.pe.header.FileHeader.{FileHeader}
use Rattle.framehop_object.specs.declared.pe.section_header.SectionHeader.{SectionHeader as PeSectionHeader}
use Rattle.framehop.specs.Modules.{ModuleView}
use Rattle.framehop.specs.ModuleData.{unwind_data_in}
use Rattle.framehop_processes.specs.Exports.{symbols_of as exported_symbols_of}
use Rattle.framehop_processes.specs.MadeUpId.{is_made_up}
use Rattle.framehop_processes.specs.declared.code.FileCode.{FileCode}
use Rattle.framehop_processes.specs.declared.code.FilePart.{FilePart}
use Rattle.framehop_processes.specs.declared.object_file.ObjectFile.{ObjectFile}
use Rattle.framehop_processes.specs.declared.object_file.FileProblem.{FileProblem}
use Rattle.framehop_processes.specs.declared.object_file.FileProblem.TheVariants.{OtherBuildId, Elf, Pe}
use Rattle.framehop_processes.specs.declared.object_file.Headers.{Headers}
use Rattle.framehop_processes.specs.declared.symbols.Symbols.{Symbols}

-- a file with its segments
pub record HeadersView : Type 0 where
  pub elf : ElfFile
  pub segments : List ProgramHeader

abbrev pub headers_view : Headers → HeadersView
headers_view h = record { elf = h.elf; segments = h.segments.items }

-- the headers of a file's bytes, or the first refusal
unfoldable pub headers_of : List ℕ → Result HeadersView ElfError
headers_of file = do
  header ← file_header_of file
  segments ← program_headers_of file header
  elf ← elf_file_with file header
  Ok (record { elf = elf; segments = segments })

-- the build id of a file, no bytes where it has none
abbrev pub build_id_in : HeadersView → List ℕ
build_id_in headers = unwrap_or (build_id_of_file headers.elf.bytes headers.segments headers.elf.sections) []

-- what a section holds that a file has, no bytes where it can't be read
abbrev pub contents_or_none : List ℕ → Option SectionHeader → List ℕ
contents_or_none file (Some section) = unwrap_or (result_ok (contents_in file section)) []
contents_or_none file None = []

-- the name of a file's debug file, no bytes where it has none (GDB, "Debugging Information in Separate Files"): the string
-- at the front of `.gnu_debuglink`
abbrev pub debug_link_in : ElfFile → List ℕ
debug_link_in elf = before_nul (contents_or_none elf.bytes (section_called elf (codes ".gnu_debuglink")))

-- a build id that is wanted is another
abbrev pub is_another : List ℕ → List ℕ → Bool
is_another [] found = false
is_another (byte ∷ bytes) found = not (pointwise nat_eq found (byte ∷ bytes))

-- a file is another than the one that is wanted; one without a build id is that for which LLDB makes it up
abbrev pub is_another_file : List ℕ → List ℕ → List ℕ → Bool
is_another_file wanted found file = is_another wanted found && not ((length found == 0) && is_made_up wanted file)

-- the functions and the labels of a symbol table in its order, and the strings that have their names
pub record Listed : Type 0 where
  pub functions : List Symbol
  pub labels : List Symbol
  pub names : List ℕ

abbrev pub listed : List Symbol → List Symbol → List ℕ → Listed
listed functions labels names = record { functions = functions; labels = labels; names = names }

-- those of a section, if all can be read
unfoldable pub listed_of : ElfFile → SectionHeader → List ℕ → Result Listed ElfError
listed_of elf table names = do
  functions ← function_symbols_of elf.bytes elf.sections table
  labels ← labels_of elf.bytes elf.sections table names
  Ok (listed functions labels names)

unfoldable pub symbols_of : ElfFile → SectionHeader → Result Listed ElfError
symbols_of elf table = do
  names ← symbol_names_of elf.bytes elf.sections table
  listed_of elf table names

-- the functions and labels of a symbol table with their names, if there is one
abbrev pub symbols_in : ElfFile → Option SectionHeader → Option Listed
symbols_in elf None = None
symbols_in elf (Some table) = result_ok (symbols_of elf table)

-- the symbols of the section of a name
abbrev pub symbols_called : ElfFile → List ℕ → Option Listed
symbols_called elf name = symbols_in elf (section_called elf name)

-- the symbol tables of a file, as they are asked
abbrev pub tables_of : ElfFile → List Listed
tables_of elf =
    option_to_list (symbols_called elf (codes ".symtab")) ++ option_to_list (symbols_called elf (codes ".dynsym"))

-- that of a debug file whose build id is the file's
abbrev pub debug_tables_by : List ℕ → Result HeadersView ElfError → List Listed
debug_tables_by build_id (Err refusal) = []
debug_tables_by build_id (Ok headers) =
    if is_another build_id (build_id_in headers) then [] else option_to_list (symbols_called headers.elf (codes ".symtab"))

abbrev pub debug_tables_of : List ℕ → List ℕ → List Listed
debug_tables_of build_id file = debug_tables_by build_id (headers_of file)

-- how many bytes of a symbol's name are looked at to choose among those of one function
abbrev pub LOOKED_AT : ℕ
LOOKED_AT = 256

-- a name is one of the C library's for itself, has a version (`free@@GLIBC_2.2.5`), or begins with an underscore
abbrev pub is_internal : List ℕ → Bool
is_internal name = starts_with nat_eq name (codes "__GI_")

abbrev pub has_version : List ℕ → Bool
has_version name = list_any (λ byte. byte == 64) name

abbrev pub is_underscored : List ℕ → Bool
is_underscored name = starts_with nat_eq name (codes "_")

-- how plain a name is: least with a version or where it is the C library's for itself, more where it begins with an
-- underscore, most elsewhere
abbrev pub plainness_of : List ℕ → ℕ
plainness_of name = if is_internal name || has_version name then 0 else (if is_underscored name then 1 else 2)

-- how plain the name of a symbol is
abbrev pub plainness_in : List ℕ → Symbol → ℕ
plainness_in names symbol = plainness_of (before_nul (take LOOKED_AT (drop symbol.st_name names)))

-- the name of a symbol is so plain
abbrev pub is_so_plain : List ℕ → ℕ → Symbol → Bool
is_so_plain names plainness symbol = plainness_in names symbol == plainness

-- functions with the plainest names last, else in their order
abbrev pub by_plainness : List Symbol → List ℕ → List Symbol
by_plainness functions names = filter (is_so_plain names 0) functions
    ++ (filter (is_so_plain names 1) functions ++ filter (is_so_plain names 2) functions)

-- A table as it is kept: its functions in the order of their starts, of those of one start the plainest name last, else in
-- the order of the table; and its labels in the order of their addresses.
pub record IsTable (listed : Listed) (symbols : Symbols) : Type 0 where
  pub all : IsPermutation (by_plainness listed.functions listed.names) symbols.table
  pub order : IsStableByKey start_of nat_cmp (by_plainness listed.functions listed.names) symbols.table
  pub all_labels : IsPermutation listed.labels symbols.labels
  pub order_of_labels : IsStableByKey start_of nat_cmp listed.labels symbols.labels
  pub names : symbols.names.items ≡ listed.names

-- the same of all tables
abbrev pub AreTables : List Listed → List Symbols → Type 0
AreTables [] [] = Unit {0}
AreTables [] (s ∷ symbols) = ⊥
AreTables (l ∷ listed) [] = ⊥
AreTables (l ∷ listed) (s ∷ symbols) = IsTable l s × AreTables listed symbols

-- a module that lies at no address, with the unwind data of sections
abbrev pub module_of : ExplicitModuleSectionInfo (List ℕ) → ModuleView
module_of info = record {
  name = [];
  start = 0;
  end = 0;
  base_avma = 0;
  unwind_data = unwind_data_in (λ bytes. bytes) (table_of info);
}

-- the same of a file's sections with these bytes of `.debug_frame`, and of these bytes only
abbrev pub module_with : ElfFile → Option (List ℕ) → ModuleView
module_with elf debug_frame = module_of (unwind_sections_of elf debug_frame)

abbrev pub debug_frame_with : ElfFile → Option (List ℕ) → ModuleView
debug_frame_with elf debug_frame = module_of (debug_frame_sections_of elf debug_frame)

-- by these bytes of `.debug_frame` a file's module, where it holds no `.eh_frame`, and else the module beside it
abbrev pub module_in : ElfFile → Option (List ℕ) → ModuleView
module_in elf debug_frame = module_with elf (if has_eh_frame elf then None else debug_frame)

abbrev pub debug_frame_in : ElfFile → Option (List ℕ) → ModuleView
debug_frame_in elf debug_frame = debug_frame_with elf (if has_eh_frame elf then debug_frame else None)

-- the same of no sections: it has no unwind data
abbrev pub no_sections : ExplicitModuleSectionInfo (List ℕ)
no_sections = record {
  base_svma = 0;
  text_svma = None;
  text = None;
  stubs_svma = None;
  stub_helper_svma = None;
  got_svma = None;
  unwind_info = None;
  eh_frame_svma = None;
  eh_frame = None;
  eh_frame_hdr_svma = None;
  eh_frame_hdr = None;
  debug_frame = None;
  text_segment_svma = None;
  text_segment = None;
}

abbrev pub bare_module : ModuleView
bare_module = module_of no_sections

-- a part of a file that is loaded: the stated address at which it begins, and its bytes
pub record PartView : Type 0 where
  pub start : ℕ
  pub bytes : List ℕ

-- that of a part, by where its bytes are in its file
abbrev pub part_view : List ℕ → FilePart → PartView
part_view file part = record { start = part.start; bytes = take part.size (drop part.offset file) }

-- A file may state any number of parts, of which a run looks for an address in each: so the first 64 are kept. Linkers make
-- fewer than ten that may be executed, and about twenty with data.
abbrev pub most_parts : ℕ
most_parts = 64

-- the code of the segments that may be executed
abbrev pub code_view : FileCode → List PartView
code_view code = map (part_view code.file.items) code.segments.items

abbrev pub code_of_segment : List ℕ → Segment → PartView
code_of_segment file segment = record {
  start = segment.address;
  bytes = take segment.file_size (drop segment.offset file);
}

abbrev pub code_segments : List Segment → List Segment
code_segments segments = take most_parts (filter (λ segment. segment.is_code) segments)

abbrev pub code_of : List ℕ → List Segment → List PartView
code_of file segments = map (code_of_segment file) (code_segments segments)

-- the data that no process changes: of sections that are loaded (`SHF_ALLOC`), that a process may not write (`SHF_WRITE`),
-- and that have bytes in the file (System V gABI, "Sections")
abbrev pub SHF_WRITE : ℕ
SHF_WRITE = 1

abbrev pub SHF_ALLOC : ℕ
SHF_ALLOC = 2

abbrev pub is_constant : SectionHeader → Bool
is_constant section =
    not (bit_and section.sh_flags SHF_ALLOC == 0) && (bit_and section.sh_flags SHF_WRITE == 0)
    && not (section.sh_type == SHT_NOBITS)

abbrev pub part_of_section : SectionHeader → FilePart
part_of_section section = record { start = section.sh_addr; offset = section.sh_offset; size = section.sh_size }

abbrev pub constant_parts : List SectionHeader → List FilePart
constant_parts sections = map part_of_section (take most_parts (filter is_constant sections))

abbrev pub constants_of : List ℕ → List SectionHeader → List PartView
constants_of file sections = map (part_view file) (constant_parts sections)

abbrev pub constants_view : ObjectFile → List PartView
constants_view object = map (part_view object.code.file.items) object.constants.items

-- an address is in the code with which a process begins: in the 64 bytes from an entry point on, if there is one
abbrev pub is_at_entry : ℕ → ℕ → Bool
is_at_entry entry svma = not (entry == 0) && nat_le entry svma && nat_lt (svma - entry) 64

-- what a file says that is kept: its segments, their code, its constant data, where a process begins in it, its
-- build id, its modules and its symbol tables
pub record Contents : Type 0 where
  pub segments : List Segment
  pub entry : ℕ
  pub code : List PartView
  pub constants : List PartView
  pub build_id : List ℕ
  pub debug_link : List ℕ
  pub frames_problem : Option ContentsError
  pub loaded : ModuleView
  pub debug_frame : ModuleView
  pub tables : List Listed

-- an ELF file
abbrev pub elf_contents : List ℕ → HeadersView → Contents
elf_contents file headers = record {
  segments = loaded_segments_of headers.segments;
  entry = headers.elf.header.e_entry;
  code = code_of file (loaded_segments_of headers.segments);
  constants = constants_of file headers.elf.sections;
  build_id = build_id_in headers;
  debug_link = debug_link_in headers.elf;
  frames_problem = result_err (debug_frame_of headers.elf);
  loaded = module_in headers.elf (bytes_or_none (debug_frame_of headers.elf));
  debug_frame = debug_frame_in headers.elf (bytes_or_none (debug_frame_of headers.elf));
  tables = tables_of headers.elf;
}

abbrev pub elf_contents_by : List ℕ → Result HeadersView ElfError → Result Contents FileProblem
elf_contents_by file (Ok headers) = Ok (elf_contents file headers)
elf_contents_by file (Err error) = Err (Elf error)

abbrev pub elf_contents_of : List ℕ → Result Contents FileProblem
elf_contents_of file = elf_contents_by file (headers_of file)

-- ---- PE files

-- a section of a PE file as a segment: `IMAGE_SCN_MEM_EXECUTE` is the bit of code, and addresses are RVAs
abbrev pub segment_of : PeSectionHeader → Segment
segment_of section = record {
  address = section.virtual_address;
  size = section.virtual_size;
  offset = section.pointer_to_raw_data;
  file_size = section.size_of_raw_data;
  is_code = not (bit_and section.characteristics 0x20000000 == 0);
}

-- what stands for the build id of a PE file: the GUID and the age of its program database, or no bytes
abbrev pub identity_by : Result (Option RsdsView) PeError → List ℕ
identity_by (Ok (Some rsds)) = rsds.guid_and_age
identity_by (Ok None) = []
identity_by (Err error) = []

abbrev pub identity_of : PeFile → List ℕ
identity_of pe = identity_by (rsds_of pe)

-- a module that lies at no address, with the unwind data of the file's sections
abbrev pub pe_module_in : PeFile → ModuleView
pe_module_in pe = record {
  name = [];
  start = 0;
  end = 0;
  base_avma = 0;
  unwind_data = unwind_data_in (λ bytes. bytes) (pe_table_of (pe_unwind_sections_of pe));
}

-- the function table of a file, no bytes where it has none
abbrev pub pdata_of : PeFile → List ℕ
pdata_of pe = unwrap_or (pe_unwind_sections_of pe).pdata []

-- the functions that a file exports, whose names lie in its export directory: a symbol table, if the directory can be read
abbrev pub export_tables_in : FileHeader → List ℕ → Result (List ℕ) PeError → List Listed
export_tables_in header pdata (Ok directory) = listed (exported_symbols_of header pdata directory) [] directory ∷ []
export_tables_in header pdata (Err error) = []

abbrev pub export_tables_of : PeFile → List Listed
export_tables_of pe = export_tables_in pe.header (pdata_of pe) (directory_bytes_of pe)

-- a PE file
abbrev pub pe_contents : List ℕ → PeFile → Contents
pe_contents file pe = record {
  segments = map segment_of pe.sections;
  entry = 0;
  code = code_of file (map segment_of pe.sections);
  constants = [];
  build_id = identity_of pe;
  debug_link = [];
  frames_problem = None;
  loaded = pe_module_in pe;
  debug_frame = bare_module;
  tables = export_tables_of pe;
}

abbrev pub pe_contents_by : List ℕ → Result PeFile PeError → Result Contents FileProblem
pe_contents_by file (Ok pe) = Ok (pe_contents file pe)
pe_contents_by file (Err error) = Err (Pe error)

abbrev pub pe_contents_of : List ℕ → Result Contents FileProblem
pe_contents_of file = pe_contents_by file (pe_file_of file)

-- ---- either

-- what a file has, an ELF file or a PE file
abbrev pub contents_of : List ℕ → Result Contents FileProblem
contents_of file = if is_pe file then pe_contents_of file else elf_contents_of file

-- the build id of a file, no bytes where the file has none or can't be read
abbrev pub build_id_by : Result Contents FileProblem → List ℕ
build_id_by (Ok contents) = contents.build_id
build_id_by (Err problem) = []

-- why nothing is kept of a file: the first refusal, or its build id is another than the one that is wanted
abbrev pub problem_by : List ℕ → List ℕ → Result Contents FileProblem → Option FileProblem
problem_by file wanted (Err problem) = Some problem
problem_by file wanted (Ok contents) = if is_another_file wanted contents.build_id file then Some OtherBuildId else None

abbrev pub problem_of : List ℕ → List ℕ → Option FileProblem
problem_of file wanted = problem_by file wanted (contents_of file)

-- out of memory, at a file of either kind
abbrev pub IsOutOfMemory : FileProblem → Type 0
IsOutOfMemory problem = (problem ≡ Elf ElfOutOfMemory) ⊎ (problem ≡ Pe PeOutOfMemory)

-- what is kept of a file with these contents, and of the symbol tables of its debug file
pub record IsKeptBy (contents : Contents) (debug : List Listed) (object : ObjectFile) : Type 0 where
  pub segments : object.segments.items ≡ contents.segments
  pub entry : object.entry ≡ contents.entry
  pub code : code_view object.code ≡ contents.code
  pub constants : constants_view object ≡ contents.constants
  pub build_id : object.build_id.items ≡ contents.build_id
  pub debug_link : object.debug_link.items ≡ contents.debug_link
  pub frames_problem : object.frames_problem ≡ contents.frames_problem
  pub loaded : object.«module» ≡ contents.loaded
  pub debug_frame : object.debug_frame ≡ contents.debug_frame
  pub tables : AreTables (debug ++ contents.tables) object.symbols.items

-- the same of all but the code: with that of the file it is what is kept
abbrev pub IsKeptWith : List ℕ → Contents → List Listed → ObjectFile → Type 0
IsKeptWith file contents debug object =
    (code : FileCode) → code.file.items ≡ file → code_view code ≡ code_of file object.segments.items
    → IsKeptBy contents debug (record object { code = code })

abbrev pub IsKeptOf : List ℕ → List Listed → ObjectFile → Type 0
IsKeptOf file debug object =
    (contents : Contents) × (contents_of file ≡ Ok contents) × IsKeptBy contents debug object
