-- What a file without addresses prints: a line for each FDE of its call frame section, in the order of the section.
use Rattle.std.specs.Prelude.{ℕ, ◌+◌, ◌%◌, ◌^◌, Bool, false, List, [], ◌∷◌, ◌++◌, codes, Result, Ok, Err}
use Rattle.std.specs.List.{flat_map}
use Rattle.framehop_cfi.specs.Entries.{cut}
use Rattle.framehop_cfi.specs.Entry.{head_at, fde_at}
use Rattle.framehop_cfi.specs.Section.{Section}
use Rattle.framehop_cfi.specs.EntryExtent.{is_zero_length}
use Rattle.framehop_cfi.specs.declared.entry.EntryHead.{EntryHead}
use Rattle.framehop_cfi.specs.declared.entry.EntryHead.TheVariants.{ZeroLength, Cie, Fde}
use Rattle.framehop_cfi.specs.declared.entry.FrameDescriptionEntry.{FrameDescriptionEntry}
use Rattle.framehop_cfi.specs.declared.entry.UnwindSectionType.{UnwindSectionType}
use Rattle.framehop_cfi.specs.declared.entry.UnwindSectionType.TheVariants.{EhFrame, DebugFrame}
use Rattle.framehop_cfi.specs.declared.extent.EntryExtent.{EntryExtent}
use Rattle.framehop_cfi.specs.declared.read_error.ReadError.{ReadError}
use Rattle.framehop_explain.specs.Pieces.{text_of}
use Rattle.framehop_explain.specs.ReasonText.{read_error_text}
use Rattle.framehop_explain.specs.SourceText.{hexadecimal}

-- a line: its text and a line feed
abbrev pub line : List ℕ → List ℕ
line text = text ++ 10 ∷ []

-- an FDE at an offset that can't be read, and why
unfoldable pub unread_line : ℕ → ReadError → List ℕ
unread_line at error = text_of (
    codes "FDE 0x" ∷ hexadecimal at ∷ codes " can't be read: " ∷ read_error_text error ∷ (10 ∷ []) ∷ [])

-- the FDE at an offset: the addresses that it covers, or why it can't be read
unfoldable pub fde_line : ℕ → Result FrameDescriptionEntry ReadError → List ℕ
fde_line at (Ok fde) = line (text_of (
    codes "0x" ∷ hexadecimal fde.initial_address ∷ codes "..0x"
    ∷ hexadecimal ((fde.initial_address + fde.address_range) % 2 ^ 64) ∷ codes ": FDE 0x" ∷ hexadecimal at ∷ []))
fde_line at (Err error) = unread_line at error

-- the line of an entry by what it is: only an FDE has one
abbrev pub line_by : Section → ℕ → Result EntryHead ReadError → List ℕ
line_by section at (Ok (ZeroLength end)) = []
line_by section at (Ok (Cie fields end)) = []
line_by section at (Ok (Fde cie fields end)) = fde_line at (fde_at section at)
line_by section at (Err error) = []

unfoldable pub entry_line : Section → ℕ → List ℕ
entry_line section at = line_by section at (head_at section.kind section.bytes at)

-- an entry of this extent ends the section: a length of 0 does in `.eh_frame`
abbrev pub ends_section : UnwindSectionType → EntryExtent → Bool
ends_section EhFrame extent = is_zero_length extent
ends_section DebugFrame extent = false

-- the lines of all entries of a section
unfoldable pub function_lines : Section → List ℕ
function_lines section = flat_map (entry_line section) (cut section).offsets
