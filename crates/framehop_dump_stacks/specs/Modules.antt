-- The files whose code a process had mapped, and the modules of their mappings.
use Rattle.std.specs.Prelude.{ℕ, ◌-◌, List, [], ◌∷◌, map, Bool, true, false, nat_lt, if◌then◌else◌, Option, Some, None, slice_get}
use Rattle.framehop_bytes.specs.ExplicitSections.{table_of}
use Rattle.framehop_bytes.specs.declared.section.ExplicitModuleSectionInfo.{ExplicitModuleSectionInfo}
use Rattle.framehop_memory.specs.Segment.{base_of}
use Rattle.framehop_memory.specs.declared.segment.Segment.{Segment}
use Rattle.framehop.specs.ModuleData.{unwind_data_in}
use Rattle.framehop.specs.Modules.{ModuleView}
use Rattle.framehop_processes.specs.Mappings.{with_mapping}
use Rattle.framehop_processes.specs.declared.mapping.Mapping.{Mapping}
use Rattle.framehop_processes.specs.Files.{number_in, object_in}
use Rattle.framehop_processes.specs.Files.{placed_at}
use Rattle.framehop_processes.specs.Source.{SourceView}
use Rattle.framehop_processes.specs.declared.object_file.ObjectFile.{ObjectFile}
use Rattle.framehop_processes.specs.declared.files.Files.{Files}
use Rattle.framehop_processes.specs.declared.files.NamedFile.{NamedFile}
use Rattle.framehop_dumps.specs.Added.{AreLeftOut, AreReadSince, AreReadByRounds}
use Rattle.framehop_dumps.specs.Dump.{MappedCodeView, DumpView, head_of}
use Rattle.framehop_dumps.specs.Image.{sections_of, sections_in}

-- the files whose code is mapped, each once, of which nothing was read
abbrev pub AreLeftOutOf : DumpView → Files → Type 0
AreLeftOutOf dump files = AreLeftOut (map (λ code. code.path) dump.code) files

-- of which some have been read since, or all, each by the build id that it is to have
abbrev pub AreReadOf : SourceView → Bool → DumpView → Files → Files → Type 0
AreReadOf source all dump old new =
    AreReadSince source all (map (λ code. (code.path, code.build_id)) dump.code) old new

-- the files of a dump, of which some have been read, one round after another, and the others are left out
abbrev pub AreFilesAsked : SourceView → DumpView → Files → Type 0
AreFilesAsked source dump files =
    (left_out : Files) × AreLeftOutOf dump left_out
    × AreReadByRounds source (map (λ code. (code.path, code.build_id)) dump.code) left_out files

-- the same, where all are to be read at last (`true`) or as they are asked for
abbrev pub AreFilesFor : Bool → SourceView → DumpView → Files → Type 0
AreFilesFor true source dump files = (asked : Files) × AreFilesAsked source dump asked × AreReadOf source true dump asked files
AreFilesFor false source dump files = AreFilesAsked source dump files

-- where the stated address 0 of a file is, by its segments
abbrev pub base_by : List Segment → MappedCodeView → Option ℕ
base_by segments code = base_of segments code.offset (code.end - code.start) code.start

-- by what was read of the file, or else by its first bytes in memory
abbrev pub base_with : MappedCodeView → Option ObjectFile → Option ℕ
base_with code (Some object) = base_by object.segments.items code
base_with code None = code.memory_base

-- unless it is known
abbrev pub base_unless : Option ℕ → Option ℕ → Option ℕ
base_unless (Some known) base = Some known
base_unless None base = base

-- the base of a mapping: the one that the dump says, or else by the file
abbrev pub base_in : Files → ℕ → MappedCodeView → Option ℕ
base_in files number code = base_unless code.base (base_with code (object_in files number))

-- with unwind data where the base is known; else its relative addresses are offsets of the file
abbrev pub mapping_based : MappedCodeView → ℕ → Option ℕ → Mapping
mapping_based code number (Some base) =
    record { start = code.start; end = code.end; base_avma = base; file = number; has_sections = true }
mapping_based code number None = record {
  start = code.start;
  end = code.end;
  base_avma = code.start - code.offset;
  file = number;
  has_sections = false;
}

-- the mapping of code whose file is known
abbrev pub mapping_numbered : Files → MappedCodeView → Option ℕ → Option Mapping
mapping_numbered files code (Some number) = Some (mapping_based code number (base_in files number code))
mapping_numbered files code None = None

-- the mapping of mapped code, if it has an address
abbrev pub mapping_in : Files → MappedCodeView → Option Mapping
mapping_in files code =
    if nat_lt code.start code.end then mapping_numbered files code (number_in files code.path) else None

-- each mapping after the others, in the place of what it overlaps
abbrev pub mapped_by : Option Mapping → List Mapping → List Mapping
mapped_by (Some mapping) mappings = with_mapping mapping mappings
mapped_by None mappings = mappings

-- the mappings of all code, one after another
abbrev pub mappings_over : Files → List MappedCodeView → List Mapping → List Mapping
mappings_over files [] mappings = mappings
mappings_over files (code ∷ others) mappings = mappings_over files others (mapped_by (mapping_in files code) mappings)

-- the mappings of the process
abbrev pub mappings_in : DumpView → Files → List Mapping
mappings_in dump files = mappings_over files dump.code []

-- a module with sections that lies at no address
abbrev pub module_with : ExplicitModuleSectionInfo (List ℕ) → ModuleView
module_with info = record {
  name = [];
  start = 0;
  end = 0;
  base_avma = 0;
  unwind_data = unwind_data_in (λ bytes. bytes) (table_of info);
}

-- by the unwind sections that memory has of a file
abbrev pub sections_by : DumpView → Option NamedFile → ℕ → ExplicitModuleSectionInfo (List ℕ)
sections_by dump (Some file) base = sections_in dump.memory (head_of dump file.name.items) base
sections_by dump None base = sections_of None

-- by the file that was read, or else by memory
abbrev pub loaded_by : DumpView → Files → Mapping → Option ObjectFile → ModuleView
loaded_by dump files mapping (Some object) = object.«module»
loaded_by dump files mapping None =
    module_with (sections_by dump (slice_get files.list.items mapping.file) mapping.base_avma)

abbrev pub loaded_with : Bool → DumpView → Files → Mapping → ModuleView
loaded_with true dump files mapping = loaded_by dump files mapping (object_in files mapping.file)
loaded_with false dump files mapping = module_with (sections_of None)

-- The module of a mapping: by what was read of the file, or else by what memory has of it. One without sections has no
-- unwind data.
abbrev pub module_at : DumpView → Files → Mapping → ModuleView
module_at dump files mapping = placed_at (loaded_with mapping.has_sections dump files mapping) mapping
