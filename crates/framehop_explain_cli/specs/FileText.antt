-- What unwind data tells of addresses in a file, as text, and which functions it has.
use Rattle.std.specs.Prelude.{◌≡◌, ℕ, ◌+◌, ◌%◌, ◌/◌, ◌^◌, Bool, true, false, ◌||◌, nat_lt, MatchBool, List, [], ◌∷◌, ◌++◌, codes, length, Option, Some, None, Result, Ok, Err}
use Rattle.std.specs.List.{flat_map}
use Rattle.std.specs.Simd.{first_chunks}
use Rattle.framehop_core.specs.Memory.{Memory}
use Rattle.framehop_cfi.specs.Entry.{fde_at}
use Rattle.framehop_cfi.specs.Section.{Section}
use Rattle.framehop_cfi.specs.declared.entry.FrameDescriptionEntry.{FrameDescriptionEntry}
use Rattle.framehop_cfi.specs.declared.read_error.ReadError.{ReadError}
use Rattle.framehop_dwarf.specs.Unwinder.{Reading, unread, uncovered, by_row, reading_of}
use Rattle.framehop_pe.specs.FunctionTable.{function_at}
use Rattle.framehop_pe.specs.Sections.{Sections}
use Rattle.framehop_pe.specs.declared.pe.PeUnwinderError.{PeUnwinderError}
use Rattle.framehop_pe.specs.declared.pe.PeUnwinderError.TheVariants.{MissingStackData}
use Rattle.framehop_pe.specs.declared.unwind_info.function_table.RuntimeFunction.{RuntimeFunction}
use Rattle.framehop.specs.Modules.{UnwindData}
use Rattle.framehop.specs.Parts.{frames_in, pe_in}
use Rattle.framehop.specs.declared.modules.UnwinderError.{UnwinderError}
use Rattle.framehop.specs.declared.modules.UnwinderError.TheVariants.{Pe}
use Rattle.framehop_explain.specs.DataText.{IsDataText}
use Rattle.framehop_explain.specs.Explain.{IsSource, IsTold}
use Rattle.framehop_explain.specs.Found.{Explaining}
use Rattle.framehop_explain.specs.Pieces.{text_of}
use Rattle.framehop_explain.specs.ReasonText.{reason_text}
use Rattle.framehop_explain.specs.SourceText.{hexadecimal, range_text, source_text}
use Rattle.framehop_explain.specs.declared.source.RowSource.{RowSource}
use Rattle.framehop_explain.specs.declared.source.RowSource.TheVariants.{Row}
use Rattle.framehop_explain.specs.declared.source.Source.{Source}
use Rattle.framehop_explain.specs.declared.source.Source.TheVariants.{Fde}
use Rattle.framehop_explain.specs.declared.told.Told.{Told}
use Rattle.framehop_explain.specs.declared.told.Told.TheVariants.{Rule, Computed, Refused}
use Rattle.framehop_explain_cli.specs.Functions.{line, function_lines}
use Rattle.framehop_explain_cli.specs.RowText.{row_text}

-- the range of an FDE, where one can be read
unfoldable pub range_line : Result FrameDescriptionEntry ReadError → List ℕ
range_line (Ok fde) = line (text_of (
    codes "  function 0x" ∷ hexadecimal fde.initial_address ∷ codes "..0x"
    ∷ hexadecimal ((fde.initial_address + fde.address_range) % 2 ^ 64) ∷ []))
range_line (Err error) = []

-- its row for an address, where it has one
abbrev pub row_line : List (List ℕ) → Reading → List ℕ
row_line names (by_row row) = (codes "  row " ++ row_text names row) ++ 10 ∷ []
row_line names uncovered = []
row_line names (unread error) = []

-- the lines of the FDE at an offset of a section: its range, and its row for an address, which may have any number of
-- rules
abbrev pub fde_lines : List (List ℕ) → Section → ℕ → ℕ → List ℕ
fde_lines names section address offset =
    range_line (fde_at section offset) ++ row_line names (reading_of None section address offset)

-- those of the FDE that is the source of what is told
abbrev pub section_lines : List (List ℕ) → Option Section → ℕ → ℕ → List ℕ
section_lines names None address offset = []
section_lines names (Some section) address offset = fde_lines names section address offset

abbrev pub source_lines : List (List ℕ) → UnwindData → ℕ → Source → List ℕ
source_lines names unwind_data address (Fde kind offset row) =
    section_lines names (frames_in unwind_data) address offset
source_lines names unwind_data address _ = []

-- a row is the source
abbrev pub is_row : Source → Bool
is_row (Fde kind offset Row) = true
is_row _ = false

-- words of the stack are wanted, which can't be read
abbrev pub lacks_stack : UnwinderError → Bool
lacks_stack (Pe (MissingStackData address)) = true
lacks_stack _ = false

-- a frame that has no rule: by a row or where words of the stack are wanted, its caller is computed
abbrev pub no_rule_text : Bool → UnwinderError → List ℕ
no_rule_text true error = codes "the frame is computed from its registers and its stack"
no_rule_text false error = reason_text error

-- what is told, over the text of rules
abbrev pub told_line : {R : Type 0} → (R → List ℕ) → Source → Told R → List ℕ
told_line text source (Rule rule) = line (codes "  rule " ++ text rule)
told_line text source (Computed address) =
    line (codes "  no rule: the frame is computed from its registers and its stack")
told_line text source (Refused error) =
    line (codes "  no rule: " ++ no_rule_text (is_row source || lacks_stack error) error)

-- all that is printed of an address that is less than 4 GiB above the base, and of another
abbrev pub near_text : {R : Type 0} → List (List ℕ) → (R → List ℕ) → UnwindData → ℕ → Source → Told R → List ℕ
near_text names text unwind_data address source told =
    (line (text_of (codes "0x" ∷ hexadecimal address ∷ codes ": " ∷ source_text source ∷ []))
    ++ source_lines names unwind_data address source) ++ told_line text source told

unfoldable pub far_text : ℕ → List ℕ
far_text address = line (text_of (codes "0x" ∷ hexadecimal address ∷ codes ": 4 GiB or more above the base" ∷ []))

-- a stack that can't be read
abbrev pub unreadable : Memory
unreadable address = None

-- a function of `.pdata`
unfoldable pub pe_line : RuntimeFunction → List ℕ
pe_line function = line (text_of (
    codes "0x" ∷ hexadecimal function.begin_address ∷ codes "..0x" ∷ hexadecimal function.end_address
    ∷ codes ": unwind info 0x" ∷ hexadecimal function.unwind_info_address ∷ []))

-- that of an entry
abbrev pub entry_text : Option RuntimeFunction → List ℕ
entry_text None = []
entry_text (Some function) = pe_line function

-- those of all its entries, of 12 bytes each (Microsoft, "x64 exception handling", struct RUNTIME_FUNCTION), in their
-- order
unfoldable pub pe_lines : List ℕ → List ℕ
pe_lines pdata = flat_map (λ entry. entry_text (function_at entry)) (first_chunks 12 (length pdata / 12) pdata)

-- the functions of a module's unwind data: of its function table, or of its call frame section
abbrev pub functions_of : Option Sections → Option Section → List ℕ
functions_of (Some sections) frames = pe_lines sections.pdata
functions_of None (Some section) = function_lines section
functions_of None None = []

abbrev pub all_functions : UnwindData → List ℕ
all_functions unwind_data = functions_of (pe_in unwind_data) (frames_in unwind_data)

-- where no address is asked for
abbrev pub functions_unless_asked : UnwindData → List ℕ → List ℕ
functions_unless_asked unwind_data [] = all_functions unwind_data
functions_unless_asked unwind_data (address ∷ addresses) = []

module _ {R S : Type 0} (names : List (List ℕ)) (explaining : Explaining R S) (registers : S)
    (unwind_data : UnwindData) where
  -- what the unwind data tells of the address in a caller's frame, over a stack that can't be read
  abbrev pub IsToldOf : ℕ → Source → Told R → Type 0
  IsToldOf address source told =
      IsSource explaining.places explaining.limits unwind_data address false source
      × IsTold (explaining.values unreadable false registers) explaining.limits unwind_data address false told

  -- the text of an address
  abbrev pub IsAddressText : ℕ → List ℕ → Type 0
  IsAddressText address text =
      MatchBool (nat_lt address (2 ^ 32))
      ((source : Source) × (told : Told R) × IsToldOf address source told
      × (text ≡ near_text names explaining.text unwind_data address source told))
      (text ≡ far_text address)

  -- those of some addresses, one after another
  unfoldable pub AreAddressTexts : List ℕ → List ℕ → Type 0
  AreAddressTexts [] text = text ≡ []
  AreAddressTexts (address ∷ addresses) text =
      (first : List ℕ) × (others : List ℕ) × IsAddressText address first × AreAddressTexts addresses others
      × (text ≡ first ++ others)

  -- what unwind data there is, then the addresses that are asked for, or all functions
  abbrev pub IsModuleText : List ℕ → List ℕ → Type 0
  IsModuleText addresses text =
      (data_text : List ℕ) × (texts : List ℕ) × IsDataText unwind_data data_text × AreAddressTexts addresses texts
      × (text ≡ (line data_text ++ texts) ++ functions_unless_asked unwind_data addresses)
