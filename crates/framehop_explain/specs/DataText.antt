-- What unwind data a module has, as text: its kind, and how much there is.
use Rattle.std.specs.Prelude.{◌≡◌, ℕ, ◌==◌, true, false, List, [], ◌∷◌, ◌++◌, codes, if◌then◌else◌}
use Rattle.std.specs.Fmt.{decimal}
use Rattle.framehop_cfi.specs.declared.read_error.ReadError.{ReadError}
use Rattle.framehop_cfi.specs.declared.read_error.ReadError.TheVariants.{BadLength, Eof}
use Rattle.framehop_dwarf.specs.declared.index.DwarfCfiIndexError.{DwarfCfiIndexError}
use Rattle.framehop_dwarf.specs.declared.index.DwarfCfiIndexError.TheVariants.{Gimli}
use Rattle.framehop.specs.Modules.{UnwindData}
use Rattle.framehop_explain.specs.Count.{IsCountOf}
use Rattle.framehop_explain.specs.Kind.{kind_of}
use Rattle.framehop_explain.specs.declared.count.UnwindDataCount.{UnwindDataCount}
use Rattle.framehop_explain.specs.declared.count.UnwindDataCount.TheVariants as count
use Rattle.framehop_explain.specs.declared.kind.UnwindDataKind.{UnwindDataKind}
use Rattle.framehop_explain.specs.declared.kind.UnwindDataKind.TheVariants as kind
use Rattle.framehop_explain.specs.Pieces.{text_of}
use Rattle.framehop_explain.specs.ReasonText.{read_error_text, compact_read_error_text}
use Rattle.framehop_explain.specs.SourceText.{section_name}

-- why the entries of a section have no index
abbrev pub unread_text : ReadError → List ℕ
unread_text BadLength = codes "an entry has a reserved length"
unread_text Eof = codes "an entry reaches past the end of the section"
unread_text _ = codes "it can't be read"

unfoldable pub refusal_text : DwarfCfiIndexError → List ℕ
refusal_text (Gimli error) = unread_text error
refusal_text _ = codes "it can't be read"

-- a kind of unwind data
unfoldable pub kind_text : UnwindDataKind → List ℕ
kind_text kind.None = codes "no unwind data"
kind_text (kind.IndexRefused section error) = text_of (
    codes "no unwind data: " ∷ section_name section ∷ codes " is refused, since " ∷ refusal_text error ∷ [])
kind_text kind.EhFrameWithHeader = codes ".eh_frame with .eh_frame_hdr"
kind_text (kind.Indexed section) = section_name section ++ codes " with an index"
kind_text kind.Pe = codes "PE unwind info"
kind_text (kind.Compact true) = codes "compact unwind info with __eh_frame"
kind_text (kind.Compact false) = codes "compact unwind info without __eh_frame"

-- so many things of a name
unfoldable pub counted_text : List ℕ → ℕ → List ℕ
counted_text name count = text_of (decimal count ∷ codes " " ∷ (if count == 1 then name else name ++ codes "s") ∷ [])

-- how much unwind data there is
unfoldable pub count_text : UnwindDataCount → List ℕ
count_text count.None = codes "none"
count_text (count.Fdes n) = counted_text (codes "FDE") n
count_text (count.Rows n) = counted_text (codes "row") n
count_text (count.NoRows error) = text_of (codes "whose table can't be read (" ∷ read_error_text error ∷ codes ")" ∷ [])
count_text (count.Functions n) = counted_text (codes "function") n
count_text (count.Pages n) = counted_text (codes "page") n
count_text (count.NoPages error) =
    text_of (codes "whose index can't be read (" ∷ compact_read_error_text error ∷ codes ")" ∷ [])

-- the kind, with the count if there is one
abbrev pub data_text : UnwindDataKind → UnwindDataCount → List ℕ
data_text kind count.None = kind_text kind
data_text kind count = text_of (kind_text kind ∷ codes ", " ∷ count_text count ∷ [])

-- the text of a module's unwind data
abbrev pub IsDataText : UnwindData → List ℕ → Type 0
IsDataText unwind_data text =
    (count : UnwindDataCount) × IsCountOf unwind_data count × (text ≡ data_text (kind_of unwind_data) count)
