-- What `framehop-check` says of a file: the lines of its functions and the summary, or why it is refused.
use Rattle.std.specs.Prelude.{ℕ, ◌≡◌, pos, Bool, ◌++◌, List, [], length, Option, Some, None, string_bytes, nat_eq, if◌then◌else◌}
use Rattle.std.specs.List.{flat_map}
use Rattle.framehop_cfi.specs.Aarch64 as columns_aarch64
use Rattle.framehop_cfi.specs.X86_64 as columns_x86_64
use Rattle.framehop_code.specs.Aarch64.Instruction as code_aarch64
use Rattle.framehop_code.specs.X86_64.Instruction as code_x86_64
use Rattle.framehop_check.specs.Room.{room_of}
use Rattle.framehop_check.specs.declared.missing.Range.{Range}
use Rattle.framehop_check_cli.specs.Findings.{Machine, machine_of, Found, nothing_in, name_at, IsSectionChecked}
use Rattle.framehop_check_cli.specs.Opened.{rows_of}
use Rattle.framehop_check_cli.specs.Parts.{is_good}
use Rattle.framehop_check_cli.specs.Text.{missing_text, shares_text, summary_text}
use Rattle.framehop_check_cli.specs.declared.allowed.Allowed.{Allowed}
use Rattle.framehop_check_cli.specs.declared.file.Checked.{Checked}
use Rattle.framehop_check_cli.specs.declared.file.Checked.TheVariants.{Text, Refused}
use Rattle.framehop_check_cli.specs.declared.file.Opened.{Opened}
use Rattle.framehop_check_cli.specs.declared.file.Options.{Options}
use Rattle.framehop_check_cli.specs.declared.file.Parts.{Parts}
use Rattle.framehop_check_cli.specs.declared.file.Refusal.TheVariants.{Machine as OtherMachine, NoRows}
use Rattle.framehop_check_cli.specs.declared.file.Rows.{Rows}
use Rattle.framehop_check_cli.specs.declared.missing.Sizes.{Sizes}

-- x86_64 (EM_X86_64, 62) and aarch64 (EM_AARCH64, 183); no other machine's code is known
abbrev pub machine_x86_64 : Machine
machine_x86_64 = machine_of code_x86_64.instruction_at code_x86_64.base_numbered columns_x86_64.RA (pos 8) code_x86_64.base_name

abbrev pub machine_aarch64 : Machine
machine_aarch64 =
    machine_of code_aarch64.instruction_at code_aarch64.base_numbered columns_aarch64.X30 (pos 0) code_aarch64.base_name

abbrev pub machine_by : ℕ → Option Machine
machine_by number =
    if nat_eq number 62 then Some machine_x86_64 else if nat_eq number 183 then Some machine_aarch64 else None

-- these lines are printed, and the file is good or not
abbrev pub IsText : List ℕ → Bool → Checked → Type 0
IsText lines good (Text text is_good) = (string_bytes text ≡ lines) × (is_good ≡ good)
IsText lines good (Refused refusal) = ⊥

-- the lines of what was found, and the summary
abbrev pub IsReported : List ℕ → Found → Checked → Type 0
IsReported path found checked =
    IsText (found.text ++ summary_text path found.counts found.others) (is_good found.counts found.others) checked

-- all FDEs of a file's rows, and the summary, of a file of a size
abbrev pub AreRowsChecked : Machine → List ℕ → ℕ → Parts → Rows → Options → Allowed → Checked → Type 0
AreRowsChecked machine path size parts rows options allowed checked = (found : Found)
    × IsSectionChecked machine (rows_of rows) parts options allowed (nothing_in (room_of size (length rows.contents.items))) found
    × IsReported path found checked

-- by the file's machine; one of another machine is refused
abbrev pub IsCheckedBy : List ℕ → ℕ → Opened → Options → Allowed → Rows → Option Machine → Checked → Type 0
IsCheckedBy path size opened options allowed rows None checked = checked ≡ Refused (OtherMachine opened.machine)
IsCheckedBy path size opened options allowed rows (Some machine) checked =
    AreRowsChecked machine path size opened.parts rows options allowed checked

-- a file, by what it has to be checked by; one without rows is refused
abbrev pub IsChecked : List ℕ → ℕ → Opened → Options → Allowed → Option Rows → Checked → Type 0
IsChecked path size opened options allowed None checked = checked ≡ Refused NoRows
IsChecked path size opened options allowed (Some rows) checked =
    IsCheckedBy path size opened options allowed rows (machine_by opened.machine) checked

-- ---- code without rows

-- a line for each range, and the shares of the code; the file is good where each entry was read
abbrev pub range_lines : Parts → List Range → List ℕ
range_lines parts ranges = flat_map (λ range. missing_text (name_at parts range.start) range) ranges

abbrev pub listed_text : List ℕ → Parts → List Range → Sizes → Options → List ℕ
listed_text path parts listed sizes options = (if options.is_quiet then [] else range_lines parts listed) ++ shares_text path sizes
