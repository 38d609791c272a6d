-- What the check of a PE file finds: the unwind codes of each entry of its function table against the function's code
-- (Microsoft, "x64 exception handling", struct RUNTIME_FUNCTION and struct UNWIND_INFO).
use Rattle.std.specs.Prelude.{ℕ, ◌≡◌, ◌+◌, ◌-◌, ◌*◌, ◌/◌, ◌%◌, ◌⊎◌, pos, true, not, List, ◌++◌, length, drop, Option, Some, None, option_and_then, Result, Ok, Err, nat_le, if◌then◌else◌}
use Rattle.std.specs.Io.Iter.{u64_saturate}
use Rattle.std.specs.List.{filter_map, fold, range_with_len}
use Rattle.std.specs.Result.{result_ok}
use Rattle.framehop_pe.specs.FunctionTable.{function_at}
use Rattle.framehop_pe.specs.Info.{Header, Info, header_of, info_of}
use Rattle.framehop_pe.specs.declared.unwind_info.function_table.RuntimeFunction.{RuntimeFunction}
use Rattle.framehop_object.specs.Pe.PeFile.{PeFile, pe_file_of}
use Rattle.framehop_object.specs.Pe.Rva.{bytes_at}
use Rattle.framehop_object.specs.Pe.UnwindSections.{unwind_sections_of}
use Rattle.framehop_object.specs.declared.pe.error.PeError.{PeError}
use Rattle.framehop_object.specs.declared.pe.error.PeError.TheVariants.{OutOfMemory}
use Rattle.framehop_object.specs.declared.pe.header.Machine.{Machine}
use Rattle.framehop_object.specs.declared.pe.header.Machine.TheVariants.{X86_64}
use Rattle.framehop_check.specs.Check.{first_pass, alarms_from, notes_from}
use Rattle.framehop_check.specs.Counts.{with_function}
use Rattle.framehop_check.specs.Prolog.{prolog_items}
use Rattle.framehop_check.specs.declared.report.Alarm.{Alarm}
use Rattle.framehop_check_cli.specs.Checked.{machine_x86_64, IsReported}
use Rattle.framehop_check_cli.specs.Findings.{Found, alarm_lines, lines_if, note_lines, nothing_in, without_code}
use Rattle.framehop_check_cli.specs.declared.file.Checked.{Checked}
use Rattle.framehop_check_cli.specs.declared.file.Checked.TheVariants.{Refused}
use Rattle.framehop_check_cli.specs.declared.file.Options.{Options}
use Rattle.framehop_check_cli.specs.declared.file.Refusal.TheVariants.{NoFunctionTable, Pe, PeMachine}

-- so many bytes of the image from an RVA on, if the file has them
abbrev pub bytes_if : PeFile → ℕ → ℕ → Option (List ℕ)
bytes_if image rva size = result_ok (bytes_at image rva size)

-- the size of unwind info: its header, its slots, which are padded to an even count, and the entry that it is chained to
abbrev pub info_size : Header → ℕ
info_size head = 4 + 2 * (head.count + head.count % 2) + (if head.is_chained then 12 else 0)

abbrev pub header_at : PeFile → ℕ → ℕ → Option Header
header_at image rva size = option_and_then header_of (bytes_if image rva size)

-- the unwind info at an RVA
unfoldable pub prolog_at : PeFile → ℕ → Option Info
prolog_at image rva =
    option_and_then info_of (option_and_then (λ head. header_at image rva (info_size head)) (header_at image rva 4))

-- the code of a function
unfoldable pub code_of : PeFile → RuntimeFunction → Option (List ℕ)
code_of image function =
    if nat_le function.begin_address function.end_address
    then bytes_if image function.begin_address (function.end_address - function.begin_address) else None

-- its first address (SVMA)
abbrev pub begin_of : PeFile → RuntimeFunction → ℕ
begin_of image function = u64_saturate (image.header.image_base + function.begin_address)

-- what contradicts what in its prolog; nothing is known of rows that begin inside instructions but where codes tell it
abbrev pub prolog_alarms : Info → ℕ → List ℕ → List Alarm
prolog_alarms info begin code = alarms_from (pos 8) (first_pass begin) (prolog_items info begin code)

abbrev pub prolog_notes : Info → ℕ → List ℕ → List ℕ
prolog_notes info begin code = notes_from (first_pass begin) (prolog_items info begin code)

-- a function was checked; no names are read of a PE file
unfoldable pub with_prolog : Options → ℕ → Info → List ℕ → Found → Found
with_prolog options begin info code found = record {
  counts = with_function found.counts true (first_pass begin) (prolog_items info begin code) (prolog_alarms info begin code);
  others = found.others;
  room = found.room;
  text = found.text ++ lines_if (not options.is_quiet) (alarm_lines machine_x86_64 None begin code (prolog_alarms info begin code)
      ++ lines_if options.has_notes (note_lines None begin (prolog_notes info begin code)));
}

-- an entry's unwind info can't be read
abbrev pub with_unread : Found → Found
with_unread found = record found { others = record found.others { unreadable = u64_saturate (found.others.unreadable + 1) } }

-- an entry, by its unwind info and the function's code
abbrev pub with_info : Options → ℕ → Option Info → Option (List ℕ) → Found → Found
with_info options begin None code found = with_unread found
with_info options begin (Some info) None found = without_code found
with_info options begin (Some info) (Some code) found = with_prolog options begin info code found

unfoldable pub with_entry : PeFile → Options → Found → RuntimeFunction → Found
with_entry image options found function =
    with_info options (begin_of image function) (prolog_at image function.unwind_info_address) (code_of image function) found

abbrev pub with_found : PeFile → Options → Found → Option RuntimeFunction → Found
with_found image options found None = found
with_found image options found (Some function) = with_entry image options found function

-- the entries of a function table, one after another; bytes after the last whole one are no entry
abbrev pub function_in : List ℕ → ℕ → Option RuntimeFunction
function_in table number = function_at (drop (12 * number) table)

abbrev pub functions_in : List ℕ → List RuntimeFunction
functions_in table = filter_map (function_in table) (range_with_len 0 (length table / 12))

abbrev pub with_table : PeFile → Options → List ℕ → Found → Found
with_table image options table found = fold (with_entry image options) found (functions_in table)

-- nothing is known yet; no room is asked for, since the codes of an entry are few
abbrev pub nothing_yet : Found
nothing_yet = nothing_in (record { code = 0; instructions = 0 })

-- by the function table; a file without one is refused
abbrev pub IsTableChecked : List ℕ → PeFile → Options → Option (List ℕ) → Checked → Type 0
IsTableChecked path image options None checked = checked ≡ Refused NoFunctionTable
IsTableChecked path image options (Some table) checked = IsReported path (with_table image options table nothing_yet) checked

-- by the machine; only code of x86_64 is known
abbrev pub IsMachineChecked : List ℕ → PeFile → Options → Machine → Checked → Type 0
IsMachineChecked path image options X86_64 checked = IsTableChecked path image options (unwind_sections_of image).pdata checked
IsMachineChecked path image options _ checked = checked ≡ Refused PeMachine

-- a file that is no PE file is refused, and one for whose sections memory runs out
abbrev pub IsImageChecked : List ℕ → Options → Result PeFile PeError → Checked → Type 0
IsImageChecked path options (Ok image) checked = IsMachineChecked path image options image.header.machine checked
IsImageChecked path options (Err error) checked = checked ≡ Refused (Pe error)

abbrev pub IsPeChecked : List ℕ → List ℕ → Options → Checked → Type 0
IsPeChecked path file options checked =
    (checked ≡ Refused (Pe OutOfMemory)) ⊎ IsImageChecked path options (pe_file_of file) checked
