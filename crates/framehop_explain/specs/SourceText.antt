-- Where the unwind data of a module tells how to unwind, as text.
use Rattle.std.specs.Prelude.{ℕ, false, List, [], ◌∷◌, ◌++◌, codes, Some, None}
use Rattle.std.specs.Fmt.{digits}
use Rattle.framehop_cfi.specs.declared.entry.UnwindSectionType.{UnwindSectionType}
use Rattle.framehop_cfi.specs.declared.entry.UnwindSectionType.TheVariants.{EhFrame, DebugFrame}
use Rattle.framehop_explain.specs.declared.source.CompactSource.{CompactSource}
use Rattle.framehop_explain.specs.declared.source.CompactSource.TheVariants as compact
use Rattle.framehop_explain.specs.declared.source.PeSource.{PeSource}
use Rattle.framehop_explain.specs.declared.source.PeSource.TheVariants as pe
use Rattle.framehop_explain.specs.declared.source.RowSource.{RowSource}
use Rattle.framehop_explain.specs.declared.source.RowSource.TheVariants as row
use Rattle.framehop_explain.specs.declared.source.Source.{Source}
use Rattle.framehop_explain.specs.declared.source.Source.TheVariants as source
use Rattle.framehop_explain.specs.Pieces.{text_of}
use Rattle.framehop_explain.specs.ReasonText.{read_error_text}

-- a number in hexadecimal
abbrev pub hexadecimal : ℕ → List ℕ
hexadecimal number = digits 16 false number

-- a range of addresses
abbrev pub range_text : ℕ → ℕ → List ℕ
range_text start end = text_of (codes "0x" ∷ hexadecimal start ∷ codes "..0x" ∷ hexadecimal end ∷ [])

-- the name of a call frame section
unfoldable pub section_name : UnwindSectionType → List ℕ
section_name EhFrame = codes ".eh_frame"
section_name DebugFrame = codes ".debug_frame"

-- what an FDE has for an address
unfoldable pub row_text : RowSource → List ℕ
row_text (row.Unread error) = text_of (codes "no FDE can be read there (" ∷ read_error_text error ∷ codes ")" ∷ [])
row_text row.NoRow = codes "no row for the address"
row_text row.Row = codes "row"

-- a place in PE unwind info
unfoldable pub pe_source_text : PeSource → List ℕ
pe_source_text pe.Leaf = codes "no function in .pdata: leaf function"
pe_source_text (pe.Codes function) =
    codes "unwind codes of function " ++ range_text function.begin_address function.end_address
pe_source_text (pe.Epilog function) =
    codes "epilog of function " ++ range_text function.begin_address function.end_address
pe_source_text (pe.Unread function) =
    codes "unwind info of function " ++ range_text function.begin_address function.end_address
pe_source_text pe.Unsupported = codes "PE unwind info of aarch64"

-- a place in compact unwind info
unfoldable pub compact_source_text : CompactSource → List ℕ
compact_source_text compact.Stub = codes "__stubs"
compact_source_text compact.StubHelper = codes "__stub_helper"
compact_source_text (compact.Unread error) = codes "__unwind_info can't be read"
compact_source_text compact.Outside = codes "no function in __unwind_info"
compact_source_text (compact.Start function) = codes "start of function 0x" ++ hexadecimal function.start_address
compact_source_text (compact.Prologue function) = codes "prologue of function 0x" ++ hexadecimal function.start_address
compact_source_text (compact.Epilogue function) = codes "epilogue of function 0x" ++ hexadecimal function.start_address
compact_source_text (compact.Opcode function) = text_of (
    codes "opcode 0x" ∷ hexadecimal function.opcode ∷ codes " of function 0x" ∷ hexadecimal function.start_address ∷ [])

-- a place in any unwind data
unfoldable pub source_text : Source → List ℕ
source_text (source.NoUnwindData None) = codes "no unwind data"
source_text (source.NoUnwindData (Some refusal)) =
    text_of (codes "no unwind data: " ∷ section_name refusal.section_type ∷ codes " is refused" ∷ [])
source_text source.NotInHeader = codes ".eh_frame_hdr has no FDE"
source_text (source.NotInIndex section) = section_name section ++ codes " has no FDE"
source_text (source.Fde section offset row) =
    text_of (row_text row ∷ codes " of FDE 0x" ∷ hexadecimal offset ∷ codes " of " ∷ section_name section ∷ [])
source_text (source.Pe place) = pe_source_text place
source_text (source.Compact place) = compact_source_text place
source_text (source.CompactFde function offset row) = text_of (
    compact_source_text (compact.Opcode function) ∷ codes ": " ∷ row_text row ∷ codes " of FDE 0x" ∷ hexadecimal offset
    ∷ codes " of __eh_frame" ∷ [])
