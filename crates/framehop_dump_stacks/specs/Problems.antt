-- What is said of files: of which nothing was read, and of which something was not.
use Rattle.std.specs.Prelude.{◌≡◌, ℕ, ◌+◌, ◌-◌, ◌^◌, nat_eq, nat_lt, max, min, ◌&&◌, Bool, true, false, if◌then◌else◌, List, [], ◌∷◌, ◌++◌, length, codes, find, fold, is_some, Option, Some, None}
use Rattle.std.specs.BTreeMap.{BTreeMap, get}
use Rattle.std.specs.Fmt.{decimal}
use Rattle.std.specs.Ordering.{nat_cmp}
use Rattle.framehop_object.specs.Elf.ErrorText.{elf_error_text}
use Rattle.framehop_memory.specs.declared.memory.MemoryRange.{MemoryRange}
use Rattle.framehop_object.specs.Pe.ErrorText.{pe_error_text}
use Rattle.framehop_processes.specs.declared.mapping.Mapping.{Mapping}
use Rattle.framehop_processes.specs.Files.{number_in}
use Rattle.framehop_processes.specs.Found.{has_names}
use Rattle.framehop.specs.Parts.{is_unwind_data}
use Rattle.framehop_processes.specs.FramesText.{IsFramesText}
use Rattle.framehop_processes.specs.ReadRefusal.{refusal_text}
use Rattle.framehop_processes.specs.declared.files.Files.{Files}
use Rattle.framehop_processes.specs.declared.files.NamedFile.{NamedFile}
use Rattle.framehop_processes.specs.declared.object_file.ObjectFile.{ObjectFile}
use Rattle.framehop_processes.specs.declared.object_file.FileProblem.{FileProblem}
use Rattle.framehop_processes.specs.declared.object_file.FileProblem.TheVariants.{NotRead, Elf, Pe, OtherBuildId}
use Rattle.framehop_frames.specs.Line.{plain}
use Rattle.framehop_dumps.specs.Dump.{DumpView, head_of, kind_name}
use Rattle.framehop_dumps.specs.Image.{sections_in}
use Rattle.framehop_dumps.specs.declared.dump.Kind.{Kind}

-- Where memory of a process ends in the file. Addresses of the upper half are the kernel's: Linux tells of the page of vsyscall
-- there, and writes it only where it may be read.
abbrev pub range_end : MemoryRange → ℕ
range_end range = if nat_lt range.start (2 ^ 63) then min (range.offset + range.size) (2 ^ 64 - 1) else 0

-- how many bytes the file has, to where the last of its memory ends
abbrev pub needed_size : List MemoryRange → ℕ
needed_size ranges = fold (λ most range. max most (range_end range)) 0 ranges

-- so many of so many bytes
abbrev pub sizes_text : ℕ → ℕ → List ℕ
sizes_text has needed = decimal has ++ codes " of " ++ decimal needed ++ codes " bytes\n"

-- that a file is cut short, which has so many of so many bytes
abbrev pub cut_text : Kind → ℕ → ℕ → List ℕ
cut_text kind has needed =
    if nat_lt has needed
    then (codes "the " ++ kind_name kind ++ codes " is cut short: it has " ++ sizes_text has needed) else []

-- that a process had 32-bit code on a Windows of 64 bits
abbrev pub wow64_text : Bool → List ℕ
wow64_text true = codes "a 32-bit process of Windows (wow64): the stacks are its 64-bit ones, on which calls of the system run\n"
wow64_text false = []

-- what is said of the file
abbrev pub file_text : DumpView → List ℕ
file_text dump =
    cut_text dump.kind (length dump.memory.file) (needed_size dump.memory.ranges) ++ wow64_text dump.wow64

-- what was not found in a file that was read: its unwind data, its names
abbrev pub lack_text : Bool → Bool → List ℕ
lack_text true true = []
lack_text true false = codes ": no names of functions"
lack_text false true = codes ": no unwind data"
lack_text false false = codes ": no unwind data and no names of functions"

abbrev pub lack_line : List ℕ → List ℕ → List ℕ
lack_line name [] = []
lack_line name (byte ∷ bytes) = plain name ++ (byte ∷ bytes) ++ 10 ∷ []

-- the lines of a file that was read: what was not found in it, and why its `.debug_frame` is not read
abbrev pub AreObjectLines : List ℕ → ObjectFile → List ℕ → Type 0
AreObjectLines name object lines = (frames : List ℕ) × IsFramesText object.frames_problem frames
    × (lines ≡ lack_line name (lack_text (is_unwind_data object.«module».unwind_data) (has_names object.symbols.items)) ++ lack_line name frames)

-- why nothing was read of a file, after its name: it is not given, it is another one, or its reader's reason, as that prints
-- itself
abbrev pub IsProblemText : Kind → FileProblem → List ℕ → Type 0
IsProblemText kind OtherBuildId text = text ≡ codes ": its build id is not the " ++ kind_name kind ++ codes "'s"
IsProblemText kind (NotRead why) text = text ≡ codes ": " ++ refusal_text why
IsProblemText kind (Elf error) text = text ≡ codes ": " ++ elf_error_text error
IsProblemText kind (Pe error) text = text ≡ codes ": " ++ pe_error_text error

-- a mapping is of a file, with its unwind data
abbrev pub is_of_file : Option ℕ → Mapping → Bool
is_of_file (Some number) mapping = nat_eq mapping.file number && mapping.has_sections
is_of_file None mapping = false

-- for each number the first such mapping
abbrev pub HasFirstMappings : List Mapping → BTreeMap ℕ Mapping → Type 0
HasFirstMappings mappings by_file = (number : ℕ) → get nat_cmp by_file number ≡ find (is_of_file (Some number)) mappings

-- memory has the unwind data of a file where it is mapped first
abbrev pub has_frames : DumpView → List ℕ → Option Mapping → Bool
has_frames dump name (Some mapping) = is_some (sections_in dump.memory (head_of dump name) mapping.base_avma).eh_frame
has_frames dump name None = false

abbrev pub is_in_memory : DumpView → Files → List Mapping → List ℕ → Bool
is_in_memory dump files mappings name = has_frames dump name (find (is_of_file (number_in files name)) mappings)

abbrev pub in_memory_text : Kind → Bool → List ℕ
in_memory_text kind true = codes "; its unwind data is the " ++ kind_name kind ++ codes "'s"
in_memory_text kind false = []

module _ (dump : DumpView) (files : Files) (mappings : List Mapping) where
  -- the lines of a file: its name, why nothing was read of it, and whether memory has its unwind data; or what was not found
  -- in it, and why its `.debug_frame` is not read
  abbrev pub IsLineOf : List ℕ → Option ObjectFile → Option FileProblem → List ℕ → Type 0
  IsLineOf name object (Some problem) line = (why : List ℕ) × IsProblemText dump.kind problem why
      × (line ≡ plain name ++ why ++ in_memory_text dump.kind (is_in_memory dump files mappings name) ++ 10 ∷ [])
  IsLineOf name (Some object) None line = AreObjectLines name object line
  IsLineOf name None None line = line ≡ []

  -- the lines of files, in their order
  abbrev pub AreLinesOf : List NamedFile → List ℕ → Type 0
  AreLinesOf [] text = text ≡ []
  AreLinesOf (file ∷ others) text = (line : List ℕ) × IsLineOf file.name.items file.object file.problem line
      × ((later : List ℕ) × AreLinesOf others later × (text ≡ line ++ later))

  -- what is said of all files
  abbrev pub AreProblems : List ℕ → Type 0
  AreProblems text = AreLinesOf files.list.items text

  -- all that is said
  abbrev pub IsSaid : List ℕ → Type 0
  IsSaid text = (problems : List ℕ) × AreProblems problems × (text ≡ file_text dump ++ problems)
