-- Where compact unwind info tells how to unwind from an address (Apple, mach-o/compact_unwind_encoding.h).
use Rattle.std.specs.Prelude.{◌≡◌, ◌⊎◌, ℕ, ◌-◌, ◌==◌, Bool, true, false, MatchBool, List, Option, Some, None, Result, Ok, Err}
use Rattle.framehop_cfi.specs.declared.storage.StorageLimits.{StorageLimits}
use Rattle.framehop_macho.specs.Unwinder.{Module, CompactReader, Text, code_of, is_in, unwound}
use Rattle.framehop_macho.specs.UnwindInfo.{function_of}
use Rattle.framehop_macho.specs.declared.unwind_info.error.CompactReadError.{CompactReadError}
use Rattle.framehop_macho.specs.declared.unwind_info.info.Function.{Function}
use Rattle.framehop.specs.Compact.{CompactData}
use Rattle.framehop.specs.Lookup.{EntryAt, fde_entry, rule_entry, pe_entry, compact_entry}
use Rattle.framehop.specs.declared.modules.UnwinderError.{UnwinderError}
use Rattle.framehop_explain.specs.declared.source.CompactSource.{CompactSource}
use Rattle.framehop_explain.specs.declared.source.CompactSource.TheVariants.{Stub, StubHelper, Unread, Outside, Start, Prologue, Epilogue, Opcode}
use Rattle.framehop_explain.specs.declared.source.RowSource.{RowSource}
use Rattle.framehop_explain.specs.declared.source.Source.{Source}
use Rattle.framehop_explain.specs.declared.source.Source.TheVariants.{Compact, CompactFde}
use Rattle.framehop_explain.specs.Source.{fde_row}

-- what an architecture makes of the code around an offset of a function: its rule, if it gives one, and which rules are
-- those of a prologue and of an epilogue
pub record CodeReader (Rule : Type 0) : Type 1 where
  pub by_code : Function → List ℕ → ℕ → Option Rule
  pub prologue : List ℕ → ℕ → Rule → Type 0
  pub epilogue : List ℕ → ℕ → Rule → Type 0

module _ {Rule : Type 0} (reader : CodeReader Rule) where
  -- a rule by the code is a prologue's or, where no prologue is recognised, an epilogue's; without one it is the opcode
  abbrev pub IsPlaceByCode : Function → List ℕ → ℕ → Option Rule → CompactSource → Type 0
  IsPlaceByCode function code offset None place = place ≡ Opcode function
  IsPlaceByCode function code offset (Some rule) place =
      ((place ≡ Prologue function) × reader.prologue code offset rule)
      ⊎ ((place ≡ Epilogue function) × ((x : Rule) → reader.prologue code offset x → ⊥)
      × reader.epilogue code offset rule)

  -- past the start of a function, by its code, if all of it is there
  abbrev pub IsPlacePastStart : Function → ℕ → Option (List ℕ) → CompactSource → Type 0
  IsPlacePastStart function offset None place = place ≡ Opcode function
  IsPlacePastStart function offset (Some code) place =
      IsPlaceByCode function code offset (reader.by_code function code offset) place

  -- in a function: in a first frame its start and its code come before the opcode
  abbrev pub IsPlaceIn : Option Text → ℕ → Bool → Function → CompactSource → Type 0
  IsPlaceIn text address false function place = place ≡ Opcode function
  IsPlaceIn text address true function place =
      MatchBool (address == function.start_address) (place ≡ Start function)
      (IsPlacePastStart function (address - function.start_address) (code_of text function) place)

  -- by the function of an address, if there is one
  abbrev pub IsPlaceBy : Option Text → ℕ → Bool → Result (Option Function) CompactReadError → CompactSource → Type 0
  IsPlaceBy text address first (Err error) place = place ≡ Unread error
  IsPlaceBy text address first (Ok None) place = place ≡ Outside
  IsPlaceBy text address first (Ok (Some function)) place = IsPlaceIn text address first function place

  -- the place of a relative address in a frame of this kind (`true`: the first)
  abbrev pub IsPlace : Module → ℕ → Bool → CompactSource → Type 0
  IsPlace m address first place =
      MatchBool (is_in m.stubs address) (place ≡ Stub)
      (MatchBool (is_in m.stub_helper address) (place ≡ StubHelper)
      (IsPlaceBy m.text address first (function_of m.unwind_info address) place))

-- an FDE that the opcode of a function names, and what it has for the address
abbrev pub named_source : ℕ → RowSource → CompactSource → Source
named_source offset row (Opcode function) = CompactFde function offset row
named_source offset row place = Compact place

-- by what the info gives: the FDE that it names, if there is one
abbrev pub source_by_info : {Rule : Type 0} → Option StorageLimits → ℕ → Result (EntryAt Rule) UnwinderError
    → CompactSource → Source
source_by_info limits relative (Ok (fde_entry fde)) place =
    named_source fde.offset (fde_row limits relative fde) place
source_by_info limits relative (Ok (rule_entry rule)) place = Compact place
source_by_info limits relative (Ok (pe_entry sections)) place = Compact place
source_by_info limits relative (Err error) place = Compact place

-- by the place of an address, and the FDE that the info names for it
abbrev pub IsCompactSource : {Rule : Type 0} → CodeReader Rule → CompactReader Rule → Option StorageLimits → CompactData
    → ℕ → Bool → Source → Type 0
IsCompactSource code compact limits d relative first source =
    (place : CompactSource) × IsPlace code d.info relative first place
    × (source ≡ source_by_info limits relative (compact_entry d.frames (unwound compact d.info relative first)) place)
