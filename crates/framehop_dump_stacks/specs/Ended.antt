-- Why the stacks of a core file or a minidump are not written.
use Rattle.std.specs.Prelude.{◌≡◌, ◌⊎◌, ◌<◌, ◌+◌, ◌-◌, ◌^◌, ℕ, ⊤, Bool, true, List, [], ◌∷◌, Option, Some, None}
use Rattle.framehop_processes.specs.Mappings.{changed_modules}
use Rattle.framehop_processes.specs.declared.mapping.Mapping.{Mapping}
use Rattle.framehop_processes.specs.Source.{SourceView}
use Rattle.framehop_processes.specs.declared.files.Files.{Files}
use Rattle.framehop_dumps.specs.Dump.{MappedCodeView, DumpView}
use Rattle.framehop_dumps.specs.Minidump.{LoadedView, AreModuleFiles, dump_with}
use Rattle.framehop_dump_stacks.specs.Modules.{AreFilesFor, mapping_in, mapped_by}
use Rattle.framehop_dump_stacks.specs.declared.error.DumpStacksError.{DumpStacksError}
use Rattle.framehop_dump_stacks.specs.declared.error.DumpStacksError.TheVariants.{Core, Minidump, OutOfMemory, GenerationsExhausted, EmptyMapping, CannotWrite}

-- how many generations a mapping draws: one for each module that it adds or removes
abbrev pub drawn_by : Option Mapping → List Mapping → ℕ
drawn_by (Some mapping) mappings = changed_modules mapping mappings
drawn_by None mappings = 0

-- the same of mapped code, one after another
abbrev pub drawn_over : Files → List MappedCodeView → List Mapping → ℕ
drawn_over files [] mappings = 0
drawn_over files (code ∷ others) mappings =
    drawn_by (mapping_in files code) mappings + drawn_over files others (mapped_by (mapping_in files code) mappings)

-- those of a process: one for itself, and those of its code
abbrev pub drawn_in : DumpView → Files → ℕ
drawn_in dump files = 1 + drawn_over files dump.code []

-- What an error says, where so many generations are drawn. Memory may always run out, a write failed (`true`), or the counter
-- of generations ends where it can't give all that are drawn. Nothing is refused.
abbrev pub MayEnd : Bool → ℕ → DumpStacksError → Type 0
MayEnd failed drawn OutOfMemory = ⊤
MayEnd failed drawn CannotWrite = failed ≡ true
MayEnd failed drawn GenerationsExhausted = 2 ^ 64 - 1 < drawn
MayEnd failed drawn EmptyMapping = ⊥
MayEnd failed drawn (Core refusal) = ⊥
MayEnd failed drawn (Minidump refusal) = ⊥

-- the same of a dump, by those of its files that are read
abbrev pub MayEndWithFiles : Bool → Bool → SourceView → DumpView → DumpStacksError → Type 0
MayEndWithFiles failed all source dump error = (error ≡ OutOfMemory)
    ⊎ ((files : Files) × AreFilesFor all source dump files × MayEnd failed (drawn_in dump files) error)

-- the same of a minidump, by the files of its modules
abbrev pub MayEndWithModules : Bool → SourceView → DumpView × List LoadedView → DumpStacksError → Type 0
MayEndWithModules failed source minidump error = (error ≡ OutOfMemory)
    ⊎ ((files : Files) × AreModuleFiles source minidump.1 files × MayEnd failed (drawn_in (dump_with minidump files) files) error)
