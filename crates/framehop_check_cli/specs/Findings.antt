-- What the check of a file finds, function by function, and the lines that tell it.
use Rattle.std.specs.Prelude.{ℕ, ℤ, ◌≡◌, ◌+◌, Bool, false, not, ◌&&◌, ◌||◌, List, [], ◌++◌, length, take, drop, Option, Some, None, option_and_then, option_map, string_bytes, nat_eq, if◌then◌else◌}
use Rattle.std.specs.Borrow.{Bor}
use Rattle.std.specs.Cmp.Lexicographic.{pointwise}
use Rattle.std.specs.Io.Iter.{u64_saturate}
use Rattle.std.specs.List.{flat_map, fold, list_any}
use Rattle.std.specs.Str.{is_utf8}
use Rattle.framehop_bytes.specs.String.{before_nul}
use Rattle.framehop_cfi.specs.Section.{Section}
use Rattle.framehop_cfi.specs.declared.entry.FrameDescriptionEntry.{FrameDescriptionEntry}
use Rattle.framehop_code.specs.declared.effect.Base.{Base}
use Rattle.framehop_code.specs.declared.effect.Effect.{Effect}
use Rattle.framehop_object.specs.Elf.Symbol.{symbol_for}
use Rattle.framehop_object.specs.declared.elf.symbol.Symbol.{Symbol}
use Rattle.framehop_check.specs.Check.{first_pass, items_of_fde, all_of_fde, alarms_from, notes_from}
use Rattle.framehop_check.specs.Counts.{is_empty, with_function}
use Rattle.framehop_check.specs.Entries.{AreEntries, fdes_of, unreadable_in}
use Rattle.framehop_check.specs.Report.{no_counts}
use Rattle.framehop_check.specs.Room.{is_enough, room_after}
use Rattle.framehop_check.specs.Sections.{code_at}
use Rattle.framehop_check.specs.declared.check.Item.{Item}
use Rattle.framehop_check.specs.declared.entries.Entry.{Entry}
use Rattle.framehop_check.specs.declared.report.Alarm.{Alarm}
use Rattle.framehop_check.specs.declared.report.Counts.{Counts}
use Rattle.framehop_check.specs.declared.room.Room.{Room}
use Rattle.framehop_check_cli.specs.Text.{alarm_text, note_text}
use Rattle.framehop_check_cli.specs.declared.allowed.Allowed.{Allowed}
use Rattle.framehop_check_cli.specs.declared.file.Options.{Options}
use Rattle.framehop_check_cli.specs.declared.file.Parts.{Parts}
use Rattle.framehop_check_cli.specs.declared.findings.Findings.{Findings}
use Rattle.framehop_check_cli.specs.declared.findings.Others.{Others}

-- ---- names

-- the name of a symbol in a table of strings, of which 4096 bytes are read; if it is UTF-8, with where the function begins
abbrev pub name_in : List ℕ → Symbol → List ℕ
name_in strings symbol = before_nul (take 4096 (drop symbol.st_name strings))

abbrev pub named : List ℕ → Symbol → Option (List ℕ × ℕ)
named strings symbol = if is_utf8 (name_in strings symbol) then Some (name_in strings symbol, symbol.st_value) else None

-- the name of the function at an address
abbrev pub name_at : Parts → ℕ → Option (List ℕ × ℕ)
name_at parts address = option_and_then (named parts.strings.now) (symbol_for parts.symbols address)

-- the same where the parts of a file may not be there
abbrev pub parts_view : Option (Bor Parts) → Option Parts
parts_view parts = option_map (λ lent. lent.now) parts

abbrev pub name_if : Option Parts → ℕ → Option (List ℕ × ℕ)
name_if None address = None
name_if (Some parts) address = name_at parts address

-- a function's alarms are allowed: its name is listed
abbrev pub is_listed : Allowed → List ℕ → Bool
is_listed allowed name = list_any (λ one. pointwise nat_eq one.now name) allowed.names.items

abbrev pub is_allowed : Allowed → Option (List ℕ × ℕ) → Bool
is_allowed allowed None = false
is_allowed allowed (Some function) = is_listed allowed function.0

-- ---- lines

-- instructions of a machine, its columns of DWARF, and how far above the CFA's register a function begins
pub record Machine : Type 0 where
  pub instruction : List ℕ → ℕ → Option Effect
  pub numbered : ℕ → Option Base
  pub return_column : ℕ
  pub entry : ℤ
  pub named : Base → List ℕ

abbrev pub machine_of : (List ℕ → ℕ → Option Effect) → (ℕ → Option Base) → ℕ → ℤ → (Base → List ℕ) → Machine
machine_of instruction numbered return_column entry named = record {
  instruction = instruction;
  numbered = numbered;
  return_column = return_column;
  entry = entry;
  named = named;
}

-- an FDE's instructions with what its rows say, and what contradicts what
abbrev pub items : Machine → Section → FrameDescriptionEntry → List ℕ → List Item
items machine section fde code = items_of_fde machine.instruction machine.numbered machine.return_column None section fde code

abbrev pub is_whole : Machine → Section → FrameDescriptionEntry → List ℕ → Bool
is_whole machine section fde code = all_of_fde machine.instruction machine.numbered machine.return_column None section fde code

abbrev pub alarms : Machine → Section → FrameDescriptionEntry → List ℕ → List Alarm
alarms machine section fde code = alarms_from machine.entry (first_pass fde.initial_address) (items machine section fde code)

abbrev pub notes : Machine → Section → FrameDescriptionEntry → List ℕ → List ℕ
notes machine section fde code = notes_from (first_pass fde.initial_address) (items machine section fde code)

-- a line for each alarm, and one for each note
abbrev pub alarm_lines : Machine → Option Parts → ℕ → List ℕ → List Alarm → List ℕ
alarm_lines machine parts start code alarms =
    flat_map (λ alarm. alarm_text machine.named machine.instruction (name_if parts alarm.address) start code alarm) alarms

abbrev pub note_lines : Option Parts → ℕ → List ℕ → List ℕ
note_lines parts start notes = flat_map (λ address. note_text (name_if parts address) start address) notes

-- the lines of a function: none where only summaries are asked for, and notes where they are
abbrev pub lines_if : Bool → List ℕ → List ℕ
lines_if is_printed lines = if is_printed then lines else []

-- ---- findings

-- what was counted, what room is left, and the lines so far
pub record Found : Type 0 where
  pub counts : Counts
  pub others : Others
  pub room : Room
  pub text : List ℕ

abbrev pub found_view : Findings → Found
found_view findings = record {
  counts = findings.report.counts;
  others = findings.others;
  room = findings.room;
  text = string_bytes findings.text;
}

abbrev pub nothing_in : Room → Found
nothing_in room = record {
  counts = no_counts;
  others = record { allowed = 0; unreadable = 0; without_code = 0; sharing = 0 };
  room = room;
  text = [];
}

-- a function with alarms that are allowed
abbrev pub with_allowed : Bool → List Alarm → Others → Others
with_allowed is_allowed alarms others =
    if is_allowed && not (is_empty alarms) then record others { allowed = u64_saturate (others.allowed + 1) } else others

-- a function was checked, whose code is this
unfoldable pub with_checked : Machine → Section → Parts → Options → Bool → FrameDescriptionEntry → List ℕ → Found → Found
with_checked machine section parts options is_allowed fde code found = record {
  counts = with_function found.counts (is_whole machine section fde code) (first_pass fde.initial_address)
      (items machine section fde code) (alarms machine section fde code);
  others = with_allowed is_allowed (alarms machine section fde code) found.others;
  room = found.room;
  text = found.text ++ lines_if (not (is_allowed || options.is_quiet))
      (alarm_lines machine (Some parts) fde.initial_address code (alarms machine section fde code)
      ++ lines_if options.has_notes (note_lines (Some parts) fde.initial_address (notes machine section fde code)));
}

-- a function's code is not in the file, or shares the file with too much
abbrev pub without_code : Found → Found
without_code found = record found { others = record found.others { without_code = u64_saturate (found.others.without_code + 1) } }

abbrev pub with_sharing : Found → Found
with_sharing found = record found { others = record found.others { sharing = u64_saturate (found.others.sharing + 1) } }

-- an FDE, by its code
abbrev pub with_code : Machine → Section → Parts → Options → Allowed → FrameDescriptionEntry → Option (List ℕ) → Found → Found
with_code machine section parts options allowed fde None found = without_code found
with_code machine section parts options allowed fde (Some code) found =
    if is_enough found.room fde (length code)
    then with_checked machine section parts options (is_allowed allowed (name_at parts fde.initial_address)) fde code
    (record found { room = room_after found.room fde (length code) })
    else with_sharing found

unfoldable pub with_fde : Machine → Section → Parts → Options → Allowed → Found → FrameDescriptionEntry → Found
with_fde machine section parts options allowed found fde =
    with_code machine section parts options allowed fde (code_at parts.code fde.initial_address fde.address_range) found

-- the FDEs of a section, one after another
abbrev pub with_fdes : Machine → Section → Parts → Options → Allowed → List FrameDescriptionEntry → Found → Found
with_fdes machine section parts options allowed fdes found = fold (with_fde machine section parts options allowed) found fdes

-- so many entries of the section can't be read
abbrev pub with_unreadable : ℕ → Found → Found
with_unreadable count found = record found { others = record found.others { unreadable = count } }

-- all entries of a section
abbrev pub IsSectionChecked : Machine → Section → Parts → Options → Allowed → Found → Found → Type 0
IsSectionChecked machine section parts options allowed old new = (entries : List Entry) × AreEntries section 0 entries
    × (new ≡ with_fdes machine section parts options allowed (fdes_of entries) (with_unreadable (u64_saturate (unreadable_in entries)) old))
