-- The lines of the report: of alarms, of notes, of code without rows, and the summaries of a file.
use Rattle.std.specs.Prelude.{ℕ, ◌+◌, ◌-◌, ◌/◌, ◌%◌, ◌^◌, false, List, [], ◌∷◌, ◌++◌, drop, take, codes, Option, Some, None, ℤ, unsigned_abs, nat_eq, if◌then◌else◌}
use Rattle.std.specs.Fmt.{decimal, digits}
use Rattle.std.specs.Int.{is_negative}
use Rattle.std.specs.List.{flat_map}
use Rattle.framehop_cli.specs.Printed.{printed_name}
use Rattle.framehop_code.specs.declared.effect.Base.{Base}
use Rattle.framehop_code.specs.declared.effect.Base.TheVariants.{Sp}
use Rattle.framehop_code.specs.declared.effect.Effect.{Effect}
use Rattle.framehop_check.specs.Missing.{size_of, share}
use Rattle.framehop_check.specs.declared.missing.Range.{Range}
use Rattle.framehop_check.specs.declared.report.Alarm.{Alarm}
use Rattle.framehop_check.specs.declared.report.Counts.{Counts}
use Rattle.framehop_check.specs.declared.tracked.Fault.{Fault}
use Rattle.framehop_check.specs.declared.tracked.Fault.TheVariants.{Differs, Overwritten, Returns, Jumps}
use Rattle.framehop_check_cli.specs.declared.findings.Others.{Others}
use Rattle.framehop_check_cli.specs.declared.missing.Sizes.{Sizes}

-- pieces of a text, one after another
abbrev pub text_from : List ℕ → List (List ℕ) → List ℕ
text_from piece [] = piece
text_from piece (next ∷ others) = piece ++ text_from next others

abbrev pub text_of : List (List ℕ) → List ℕ
text_of [] = []
text_of (piece ∷ others) = text_from piece others

-- a number in hexadecimal, and one with its sign
abbrev pub hexadecimal : ℕ → List ℕ
hexadecimal number = digits 16 false number

unfoldable pub signed_text : ℤ → List ℕ
signed_text number = (if is_negative number then codes "-" else codes "+") ++ decimal (unsigned_abs number)

-- how far an address is from a start, in numbers of 64 bits
abbrev pub distance : ℕ → ℕ → ℕ
distance address start = (address + (2 ^ 64 - start)) % 2 ^ 64

-- ---- alarms and notes

-- an address with the function that it is in: by its name and where that begins, or by where the FDE begins
abbrev pub owner_text : Option (List ℕ × ℕ) → ℕ → ℕ → List ℕ
owner_text (Some function) start address =
    text_of (printed_name function.0 ∷ codes "+0x" ∷ hexadecimal (distance address function.1) ∷ codes ": " ∷ [])
owner_text None start address =
    text_of (codes "0x" ∷ hexadecimal start ∷ codes "+0x" ∷ hexadecimal (distance address start) ∷ codes ": " ∷ [])

unfoldable pub place_text : Option (List ℕ × ℕ) → ℕ → ℕ → List ℕ
place_text name start address =
    text_of (codes "0x" ∷ hexadecimal address ∷ codes " " ∷ []) ++ owner_text name start address

-- the CFA, so many bytes above a register
unfoldable pub cfa_text : List ℕ → ℤ → List ℕ
cfa_text register offset = text_of (codes "CFA = " ∷ register ∷ signed_text offset ∷ [])

-- what is said of the CFA, after words
unfoldable pub claim_text : List ℕ → List ℕ → ℤ → List ℕ
claim_text words register offset = words ++ cfa_text register offset

-- what a row and the code say of it, after words for the row
unfoldable pub claims_text : List ℕ → List ℕ → ℤ → ℤ → List ℕ
claims_text words register row code = claim_text words register row ++ claim_text (codes ", code: ") register code

-- a register is overwritten from which a row counts
unfoldable pub lost_text : List ℕ → List ℕ
lost_text register = text_of (codes ", code: " ∷ register ∷ codes " is overwritten" ∷ [])

unfoldable pub overwritten_text : List ℕ → ℤ → List ℕ
overwritten_text register row = claim_text (codes "row: ") register row ++ lost_text register

-- an instruction jumps to an address whose row differs
unfoldable pub target_text : ℕ → List ℕ
target_text target = text_of (codes "jumps to 0x" ∷ hexadecimal target ∷ codes ", " ∷ [])

unfoldable pub jumps_text : List ℕ → ℕ → ℤ → ℤ → List ℕ
jumps_text register target row code = target_text target ++ claims_text (codes "row there: ") register row code

-- what contradicts what
abbrev pub fault_text : (Base → List ℕ) → Fault → List ℕ
fault_text named (Differs base row code) = claims_text (codes "row: ") (named base) row code
fault_text named (Overwritten base row) = overwritten_text (named base) row
fault_text named (Returns code) = claim_text (codes "returns where ") (named Sp) code
fault_text named (Jumps target base row code) = jumps_text (named base) target row code

-- the bytes of an instruction at an offset of code, or one byte where none is recognised
abbrev pub size_or_one : Option Effect → ℕ
size_or_one (Some effect) = effect.size
size_or_one None = 1

abbrev pub bytes_at : (List ℕ → ℕ → Option Effect) → List ℕ → ℕ → List ℕ
bytes_at instruction code at = take (size_or_one (instruction code at)) (drop at code)

-- bytes in hexadecimal
abbrev pub byte_digits : ℕ → List ℕ
byte_digits byte = hexadecimal (byte / 16) ++ hexadecimal (byte % 16)

-- the end of a line: the instruction that an alarm follows, in a function that begins at an address
unfoldable pub before_text : (List ℕ → ℕ → Option Effect) → ℕ → List ℕ → ℕ → List ℕ
before_text instruction start code before = text_of (
    text_of (codes "; after 0x" ∷ hexadecimal before ∷ codes ": " ∷ [])
    ∷ flat_map byte_digits (bytes_at instruction code (before - start)) ∷ (10 ∷ []) ∷ [])

-- an alarm in a function that begins at an address
unfoldable pub alarm_text : (Base → List ℕ) → (List ℕ → ℕ → Option Effect) → Option (List ℕ × ℕ) → ℕ → List ℕ → Alarm → List ℕ
alarm_text named instruction name start code alarm = text_of (
    place_text name start alarm.address ∷ fault_text named alarm.fault ∷ before_text instruction start code alarm.before ∷ [])

-- a note: another row begins inside the instruction at an address
unfoldable pub note_text : Option (List ℕ × ℕ) → ℕ → ℕ → List ℕ
note_text name start address =
    text_of (place_text name start address ∷ codes "note: another row begins inside this instruction" ∷ (10 ∷ []) ∷ [])

-- ---- code without rows

-- how far an address is from the start of its function, where it is not the start
abbrev pub offset_text : ℕ → List ℕ
offset_text offset = if nat_eq offset 0 then [] else codes "+0x" ++ hexadecimal offset

-- the function that an address is in, if it has a name
unfoldable pub function_text : Option (List ℕ × ℕ) → ℕ → List ℕ
function_text None address = []
function_text (Some function) address =
    text_of (codes " " ∷ printed_name function.0 ∷ offset_text (distance address function.1) ∷ [])

-- a range that no FDE covers: its addresses, its size in bytes, and the function that it begins in
unfoldable pub range_text : Range → List ℕ
range_text range = text_of (
    codes "0x" ∷ hexadecimal range.start ∷ codes "-0x" ∷ hexadecimal range.end ∷ codes " " ∷ decimal (size_of range) ∷ [])

unfoldable pub missing_text : Option (List ℕ × ℕ) → Range → List ℕ
missing_text name range = text_of (range_text range ∷ function_text name range.start ∷ (10 ∷ []) ∷ [])

-- a count, where there is something to count
unfoldable pub count_text : ℕ → List ℕ → List ℕ
count_text count what = if nat_eq count 0 then [] else text_of (codes ", " ∷ decimal count ∷ codes " " ∷ what ∷ [])

-- a part of the code, in bytes and in tenths of a percent
unfoldable pub share_text : ℕ → ℕ → List ℕ → List ℕ
share_text part whole what = text_of (
    decimal part ∷ codes " " ∷ what ∷ codes " (" ∷ decimal (share part whole / 10) ∷ codes "."
    ∷ decimal (share part whole % 10) ∷ codes " %)" ∷ [])

-- how much of a file's code has rows, has none, and is padding
unfoldable pub parts_text : Sizes → List ℕ
parts_text sizes = text_of (
    share_text (sizes.code - sizes.missing) sizes.code (codes "with rows") ∷ codes ", "
    ∷ text_of (share_text sizes.listed sizes.code (codes "without") ∷ codes ", "
    ∷ share_text (sizes.missing - sizes.listed) sizes.code (codes "of padding") ∷ []) ∷ [])

unfoldable pub shares_text : List ℕ → Sizes → List ℕ
shares_text path sizes = text_of (
    text_of (printed_name path ∷ codes ": " ∷ decimal sizes.code ∷ codes " bytes of code, " ∷ [])
    ∷ parts_text sizes ∷ (count_text sizes.unreadable (codes "entries unreadable") ++ 10 ∷ []) ∷ [])

-- ---- the summary

-- what was checked of a file
unfoldable pub counts_text : List ℕ → Counts → List ℕ
counts_text path counts = text_of (
    printed_name path ∷ codes ": " ∷ decimal counts.functions ∷ codes " functions, " ∷ decimal counts.unread
    ∷ codes " not wholly read, " ∷ decimal counts.instructions ∷ codes " instructions, " ∷ [])

unfoldable pub rows_text : Counts → List ℕ
rows_text counts = text_of (
    decimal counts.checked ∷ codes " rows checked, " ∷ decimal counts.believed ∷ codes " believed, " ∷ decimal counts.jumps
    ∷ codes " jumps checked, " ∷ decimal counts.calls ∷ codes " rows changed after calls, " ∷ decimal counts.alarmed
    ∷ codes " functions with alarms" ∷ [])

-- what was not, or is allowed
unfoldable pub others_text : Others → List ℕ
others_text others =
    (count_text others.allowed (codes "of them allowed") ++ count_text others.unreadable (codes "entries unreadable"))
    ++ (count_text others.without_code (codes "functions without code")
    ++ count_text others.sharing (codes "functions not checked, as they share code or a CIE with too many"))

unfoldable pub summary_text : List ℕ → Counts → Others → List ℕ
summary_text path counts others =
    text_of ((counts_text path counts ++ rows_text counts) ∷ others_text others ∷ (10 ∷ []) ∷ [])
