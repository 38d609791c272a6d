-- Why a core file is refused, and which refusal comes first.
use Rattle.std.specs.Prelude.{◌≡◌, Result, Ok, Err}
use Rattle.framehop_object.specs.declared.elf.error.ElfError.{ElfError}
use Rattle.framehop_object.specs.declared.elf.error.ElfError.TheVariants as elf
use Rattle.framehop_dump_files.specs.declared.coredump.error.CoreFileError.{CoreFileError}
use Rattle.framehop_dump_files.specs.declared.coredump.error.CoreFileError.TheVariants.{Elf, OutOfMemory}

-- what refuses the ELF file refuses the core file
abbrev pub of_elf : ElfError → CoreFileError
of_elf elf.OutOfMemory = OutOfMemory
of_elf refusal = Elf refusal

-- what is read of the ELF file
abbrev pub from_elf : {A : Type 0} → Result A ElfError → Result A CoreFileError
from_elf (Ok value) = Ok value
from_elf (Err refusal) = Err (of_elf refusal)

-- the error of what is to be read where memory may run out: that of the bytes comes first
abbrev pub IsErrorOf : {A : Type 0} → Result A CoreFileError → CoreFileError → Type 0
IsErrorOf (Ok value) error = error ≡ OutOfMemory
IsErrorOf (Err refusal) error = error ≡ refusal
