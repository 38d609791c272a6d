-- What is said of files: of which nothing was read, and of which something was not.
use Rattle.std.specs.Prelude.{◌≡◌, ℕ, List, [], ◌∷◌, ◌++◌, codes, decimal, Option, Some, None, ◌==◌, if◌then◌else◌}
use Rattle.framehop_object.specs.Elf.ErrorText.{elf_error_text}
use Rattle.framehop_object.specs.declared.elf.decompressed.ContentsError.{ContentsError}
use Rattle.framehop_frames.specs.Line.{plain}
use Rattle.framehop_object.specs.Pe.ErrorText.{pe_error_text}
use Rattle.framehop_processes.specs.FramesText.{IsFramesText}
use Rattle.framehop_processes.specs.ReadRefusal.{refusal_text}
use Rattle.framehop_processes.specs.declared.code_map.CodeMap.{CodeMap}
use Rattle.framehop_processes.specs.declared.files.Files.{Files}
use Rattle.framehop_processes.specs.declared.files.NamedFile.{NamedFile}
use Rattle.framehop_processes.specs.declared.object_file.ObjectFile.{ObjectFile}
use Rattle.framehop_processes.specs.declared.object_file.FileProblem.{FileProblem}
use Rattle.framehop_processes.specs.declared.object_file.FileProblem.TheVariants.{NotRead, Elf, Pe, OtherBuildId}

-- Why nothing was read of a file: it is not given, it is another one, or its reader's reason, as that prints itself.
abbrev pub IsProblemText : FileProblem → List ℕ → Type 0
IsProblemText (NotRead why) text = text ≡ refusal_text why
IsProblemText OtherBuildId text = text ≡ codes "its build id is not the recording's"
IsProblemText (Elf error) text = text ≡ elf_error_text error
IsProblemText (Pe error) text = text ≡ pe_error_text error

abbrev pub unread_line : List ℕ → List ℕ → List ℕ
unread_line name why = plain name ++ codes ": " ++ why ++ 10 ∷ []

-- what was not read of a file: a `.debug_frame`
abbrev pub frames_problem : Option ObjectFile → Option ContentsError
frames_problem (Some object) = object.frames_problem
frames_problem None = None

-- and lines of a map of code that tell no function
abbrev pub lines_left_out : Option CodeMap → ℕ
lines_left_out (Some code_map) = code_map.left_out
lines_left_out None = 0

abbrev pub left_out_text : ℕ → List ℕ
left_out_text left_out =
    if left_out == 0 then []
    else codes ": lines that are left out, since they are not START SIZE NAME: " ++ decimal left_out

abbrev pub IsSaidOf : NamedFile → List ℕ → Type 0
IsSaidOf file text = (frames : List ℕ) × IsFramesText (frames_problem file.object) frames
    × (text ≡ frames ++ left_out_text (lines_left_out file.code_map))

-- its line, none where all was read
abbrev pub noted_line : List ℕ → List ℕ → List ℕ
noted_line name [] = []
noted_line name (byte ∷ said) = plain name ++ (byte ∷ said) ++ 10 ∷ []

-- the line of a file: why nothing was read of it, or else what was not
abbrev pub IsLineBy : Option FileProblem → NamedFile → List ℕ → Type 0
IsLineBy None file line = (said : List ℕ) × IsSaidOf file said × (line ≡ noted_line file.name.items said)
IsLineBy (Some problem) file line = (why : List ℕ) × IsProblemText problem why × (line ≡ unread_line file.name.items why)

abbrev pub IsLineOf : NamedFile → List ℕ → Type 0
IsLineOf file line = IsLineBy file.problem file line

-- the lines of files, in their order
abbrev pub AreLinesOf : List NamedFile → List ℕ → Type 0
AreLinesOf [] text = text ≡ []
AreLinesOf (file ∷ others) text = (line : List ℕ) × IsLineOf file line
    × ((later : List ℕ) × AreLinesOf others later × (text ≡ line ++ later))

-- what is said of all files
abbrev pub AreProblems : Files → List ℕ → Type 0
AreProblems files text = AreLinesOf files.list.items text
