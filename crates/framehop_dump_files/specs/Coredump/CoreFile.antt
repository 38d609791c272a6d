-- Which files are core files (gABI, chapter 4, "ELF Header": ET_CORE).
-- The fields are e_type and e_machine.
use Rattle.std.specs.Prelude.{ℕ, List, not, Result, Ok, Err, ◌==◌, if◌then◌else◌}
use Rattle.framehop_bytes.specs.Bytes.{◌>>=◌}
use Rattle.framehop_object.specs.Elf.Header.{file_header_of}
use Rattle.framehop_object.specs.Elf.ProgramHeader.{program_headers_of}
use Rattle.framehop_object.specs.declared.elf.header.FileHeader.{FileHeader}
use Rattle.framehop_object.specs.declared.elf.program_header.ProgramHeader.{ProgramHeader}
use Rattle.framehop_dump_files.specs.Coredump.Numbers.{ET_CORE, EM_X86_64, EM_AARCH64}
use Rattle.framehop_dump_files.specs.Coredump.Refusal.{from_elf}
use Rattle.framehop_dump_files.specs.declared.coredump.core_file.Machine.{Machine}
use Rattle.framehop_dump_files.specs.declared.coredump.core_file.Machine.TheVariants.{X86_64, Aarch64}
use Rattle.framehop_dump_files.specs.declared.coredump.error.CoreFileError.{CoreFileError}
use Rattle.framehop_dump_files.specs.declared.coredump.error.CoreFileError.TheVariants.{NotACore, UnknownMachine}

-- the machine of a file of type ET_CORE, by the fields at 16 and 18
abbrev pub machine_of : FileHeader → Result Machine CoreFileError
machine_of header =
    if not (header.e_type == ET_CORE) then Err (NotACore 16)
    else if header.e_machine == EM_X86_64 then Ok X86_64
    else if header.e_machine == EM_AARCH64 then Ok Aarch64
    else Err (UnknownMachine 18)

-- a core file: its machine and its program headers
unfoldable pub core_file_of : List ℕ → Result (Machine × List ProgramHeader) CoreFileError
core_file_of file = do
  header ← from_elf (file_header_of file)
  machine ← machine_of header
  segments ← from_elf (program_headers_of file header)
  Ok (machine, segments)
