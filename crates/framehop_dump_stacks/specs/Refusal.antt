-- Why a core file or a minidump gives no stacks, by what refused it.
use Rattle.framehop_dump_files.specs.declared.coredump.error.CoreFileError.{CoreFileError}
use Rattle.framehop_dump_files.specs.declared.coredump.error.CoreFileError.TheVariants as file
use Rattle.framehop_dump_files.specs.declared.minidump.error.MinidumpError.{MinidumpError}
use Rattle.framehop_dump_files.specs.declared.minidump.error.MinidumpError.TheVariants as minidump
use Rattle.framehop_processes.specs.declared.error.ProcessesError.{ProcessesError}
use Rattle.framehop_processes.specs.declared.error.ProcessesError.TheVariants as processes
use Rattle.framehop_dump_stacks.specs.declared.error.DumpStacksError.{DumpStacksError}
use Rattle.framehop_dump_stacks.specs.declared.error.DumpStacksError.TheVariants.{Core, Minidump, OutOfMemory, GenerationsExhausted, EmptyMapping}

-- the refusal of a core file, of a minidump, and of a change of the process, as one of a run
abbrev pub of_core_file : CoreFileError → DumpStacksError
of_core_file file.OutOfMemory = OutOfMemory
of_core_file refusal = Core refusal

abbrev pub of_minidump : MinidumpError → DumpStacksError
of_minidump minidump.OutOfMemory = OutOfMemory
of_minidump refusal = Minidump refusal

abbrev pub of_processes : ProcessesError → DumpStacksError
of_processes processes.OutOfMemory = OutOfMemory
of_processes processes.GenerationsExhausted = GenerationsExhausted
of_processes processes.EmptyMapping = EmptyMapping
