-- An ELF file or a PE file as it is read: its machine and its unwind data, or why it is not read.
use Rattle.std.specs.Prelude.{◌≡◌, ℕ, ◌-◌, ◌^◌, ◌==◌, ◌&&◌, not, Bool, true, MatchBool, nat_eq, if◌then◌else◌, List, [], codes, Option, Some, None, Result, Ok, Err}
use Rattle.framehop_bytes.specs.Bytes.{◌>>=◌}
use Rattle.framehop_bytes.specs.ExplicitSections.{table_of}
use Rattle.framehop_object.specs.Elf.ElfFile.{ElfFile, elf_file_of}
use Rattle.framehop_object.specs.Elf.UnwindSections.{has_eh_frame, debug_frame_of, unwind_sections_of}
use Rattle.framehop_object.specs.declared.elf.decompressed.ContentsError.{ContentsError}
use Rattle.framehop_object.specs.declared.elf.decompressed.ContentsError.TheVariants.{OutOfMemory as NoMemoryForContents}
use Rattle.framehop_object.specs.declared.elf.error.ElfError.{ElfError}
use Rattle.framehop_object.specs.declared.elf.error.ElfError.TheVariants.{OutOfMemory as NoMemoryForElf}
use Rattle.framehop_object.specs.Pe.Header.{is_pe}
use Rattle.framehop_object.specs.Pe.PeFile.{pe_file_of}
use Rattle.framehop_object.specs.Pe.UnwindSections.{unwind_sections_of as pe_sections_of, table_of as pe_table_of}
use Rattle.framehop_object.specs.declared.pe.error.PeError.{PeError}
use Rattle.framehop_object.specs.declared.pe.error.PeError.TheVariants.{OutOfMemory as NoMemoryForPe}
use Rattle.framehop_object.specs.declared.pe.header.Machine.{Machine}
use Rattle.framehop_object.specs.declared.pe.header.Machine.TheVariants.{X86_64, Aarch64, Other}
use Rattle.framehop_core.specs.Aarch64.Registers.{Registers as RegistersAarch64}
use Rattle.framehop.specs.ModuleData.{unwind_data_in}
use Rattle.framehop.specs.Modules.{UnwindData}
use Rattle.framehop.specs.Policy.{with_allocation}
use Rattle.framehop_explain.specs.Architectures.{explaining_aarch64, explaining_x86_64}
use Rattle.framehop_walk.specs.Registers.{three}
use Rattle.framehop_explain_cli.specs.declared.file.FileProblem.{FileProblem}
use Rattle.framehop_explain_cli.specs.declared.file.FileProblem.TheVariants as problem
use Rattle.framehop_explain_cli.specs.FileText.{IsModuleText}
use Rattle.framehop_explain_cli.specs.RowText.{x86_64_names, aarch64_names}

-- the numbers by which ELF files name machines (System V gABI, chapter 4, "ELF Header", `e_machine`)
abbrev pub EM_X86_64 : ℕ
EM_X86_64 = 62

abbrev pub EM_AARCH64 : ℕ
EM_AARCH64 = 183

-- the same of the machine of a PE file; another keeps its number
abbrev pub elf_machine : Machine → ℕ
elf_machine X86_64 = EM_X86_64
elf_machine Aarch64 = EM_AARCH64
elf_machine (Other number) = number

-- the refusal of a reader; running out of memory is the same for all
abbrev pub of_elf : ElfError → FileProblem
of_elf NoMemoryForElf = problem.OutOfMemory
of_elf error = problem.Elf error

abbrev pub of_contents : ContentsError → FileProblem
of_contents NoMemoryForContents = problem.OutOfMemory
of_contents error = problem.DebugFrame error

abbrev pub of_pe : PeError → FileProblem
of_pe NoMemoryForPe = problem.OutOfMemory
of_pe error = problem.Pe error

abbrev pub refused_by : {A E : Type 0} → (E → FileProblem) → Result A E → Result A FileProblem
refused_by problem_of (Ok value) = Ok value
refused_by problem_of (Err error) = Err (problem_of error)

-- a file: the number of its machine, and its unwind data
pub record FileView : Type 0 where
  pub machine : ℕ
  pub unwind_data : UnwindData

-- an ELF file without `.eh_frame` unwinds by its `.debug_frame`
abbrev pub debug_frame_in : ElfFile → Result (Option (List ℕ)) ContentsError
debug_frame_in elf = if has_eh_frame elf then Ok None else debug_frame_of elf

unfoldable pub elf_of : List ℕ → Result FileView FileProblem
elf_of file =
    refused_by of_elf (elf_file_of file) >>= λ elf.
    refused_by of_contents (debug_frame_in elf) >>= λ debug_frame.
    Ok (record {
      machine = elf.header.e_machine;
      unwind_data = unwind_data_in (λ bytes. bytes) (table_of (unwind_sections_of elf debug_frame));
    })

unfoldable pub pe_of : List ℕ → Result FileView FileProblem
pe_of file =
    refused_by of_pe (pe_file_of file) >>= λ pe.
    Ok (record {
      machine = elf_machine pe.header.machine;
      unwind_data = unwind_data_in (λ bytes. bytes) (pe_table_of (pe_sections_of pe));
    })

-- a PE file, or else an ELF file
abbrev pub file_of : List ℕ → Result FileView FileProblem
file_of file = if is_pe file then pe_of file else elf_of file

-- registers that are all 0
abbrev pub zero_aarch64 : RegistersAarch64
zero_aarch64 = record { lr_mask = 2 ^ 64 - 1; lr = 0; sp = 0; fp = 0 }

-- the text of a file by its machine: another machine than the two has none
abbrev pub IsMachineText : FileView → List ℕ → List ℕ → Type 0
IsMachineText file addresses text =
    MatchBool (file.machine == EM_X86_64)
    (IsModuleText x86_64_names (explaining_x86_64 with_allocation) (three 0 0 0) file.unwind_data addresses text)
    (MatchBool (file.machine == EM_AARCH64)
    (IsModuleText aarch64_names (explaining_aarch64 with_allocation) zero_aarch64 file.unwind_data addresses text) ⊥)

-- a machine is neither of the two
abbrev pub is_other : ℕ → Bool
is_other machine = not (machine == EM_X86_64) && not (machine == EM_AARCH64)

-- the text of a file
abbrev pub IsFileText : Result FileView FileProblem → List ℕ → List ℕ → Type 0
IsFileText (Ok file) addresses text = IsMachineText file addresses text
IsFileText (Err refusal) addresses text = ⊥

-- why a file has no text: it is not read, or is for another machine
abbrev pub IsFileProblem : Result FileView FileProblem → FileProblem → Type 0
IsFileProblem (Ok file) refusal = (is_other file.machine ≡ true) × (refusal ≡ problem.OtherMachine file.machine)
IsFileProblem (Err error) refusal = refusal ≡ error
