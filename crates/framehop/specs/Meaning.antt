-- What a step means by the source of its rule: the row of an FDE, the unwind codes or the epilog of a PE function, or
-- the prologue or epilogue that is recognised in a function's code.
use Rattle.std.specs.Prelude.{◌≡◌, ℕ, ◌+◌, ◌-◌, ◌==◌, ◌&&◌, not, Bool, true, List, if◌then◌else◌, Option, Some, None, option_map, IfSome, MatchOption, Result, Ok, Err, IfOk}
use Rattle.framehop_core.specs.Memory.{Memory}
use Rattle.framehop_core.specs.Outcome.{Outcome, answered}
use Rattle.framehop_core.specs.CodeAddress.{FrameLocation, is_first_frame, lookup_address}
use Rattle.framehop_cfi.specs.Row.{Row}
use Rattle.framehop_cfi.specs.Section.{Section}
use Rattle.framehop_dwarf.specs.Unwinder.{OfRow, reading_of}
use Rattle.framehop_pe.specs.Sections.{Sections}
use Rattle.framehop_macho.specs.Answer.{Answer}
use Rattle.framehop_macho.specs.Unwinder.{Module, Text, is_in, code_of, unwound}
use Rattle.framehop_macho.specs.UnwindInfo.{function_of}
use Rattle.framehop_macho.specs.declared.macho.CuiUnwindResult.TheVariants.{ExecRule, NeedDwarf}
use Rattle.framehop_macho.specs.declared.unwind_info.error.CompactReadError.{CompactReadError}
use Rattle.framehop_macho.specs.declared.unwind_info.info.Function.{Function}
use Rattle.framehop.specs.Policy.{Policy}
use Rattle.framehop.specs.CallFrames.{CallFrames, fde_offset_of}
use Rattle.framehop.specs.Compact.{CompactData}
use Rattle.framehop.specs.Modules.{ModuleView, UnwindData, no_unwind_data, call_frames, pe_sections, compact_info, covering}
use Rattle.framehop.specs.Unwinding.{Readers}

-- What the sources mean on an architecture. `row`: a row that is translated to a rule; `columns`: one that is not, as
-- far as its columns have values; `by_code`: the rule by the code around an offset of a function, if the code gives
-- one; `does_code`: that such a rule undoes a prologue or does the rest of an epilogue.
pub record Meanings (Rule Regs : Type 0) : Type 1 where
  pub row : List ℕ → Memory → Row → Bool → Regs → ℕ → Regs → Type 0
  pub columns : List ℕ → Option ℕ → Memory → Row → Bool → Regs → ℕ → Regs → Type 0
  pub by_code : Function → List ℕ → ℕ → Option Rule
  pub does_code : List ℕ → ℕ → Rule → Type 0

-- a step of a frame: its kind (`true`: the first), its registers, the memory, the return address, and the caller's
-- registers
pub record Step (Regs : Type 0) : Type 0 where
  pub first : Bool
  pub old : Regs
  pub memory : Memory
  pub address : ℕ
  pub new : Regs

-- a function with its code, and the offset of an address in it
pub record Place : Type 0 where
  pub function : Function
  pub code : List ℕ
  pub offset : ℕ

-- the place of an address in a function that compact unwind info has, past its start
abbrev pub place_in : Option Text → ℕ → Result (Option Function) CompactReadError → Option Place
place_in text address (Ok (Some function)) =
    if address == function.start_address then None
    else option_map (λ code. record { function = function; code = code; offset = address - function.start_address })
    (code_of text function)
place_in text address (Ok None) = None
place_in text address (Err error) = None

-- Where the code around an address is looked at: in a first frame, in a function whose code is there, past its start.
abbrev pub code_place : Module → ℕ → Bool → Option Place
code_place m address first =
    if first && not (is_in m.stubs address) && not (is_in m.stub_helper address)
    then place_in m.text address (function_of m.unwind_info address) else None

module _ {Rule Regs : Type 0} (readers : Readers Rule Regs) (meanings : Meanings Rule Regs)
    (outcome : Rule → Bool → Regs → Memory → Outcome Regs) (policy : Policy) (s : Step Regs) where
  -- by a row: what it means, or where it has no rule, what its columns mean, if its values can be computed
  abbrev pub MeansRow : List ℕ → Row → Type 0
  MeansRow bytes row =
      MatchOption (readers.rows.translated row)
      (IfOk (readers.rows.direct bytes policy.values s.memory row s.first s.old)
      (λ _. meanings.columns bytes policy.values s.memory row s.first s.old s.address s.new))
      (λ _. meanings.row bytes s.memory row s.first s.old s.address s.new)

  -- by the FDE at an offset: its row for the address (an SVMA)
  abbrev pub MeansFde : Section → ℕ → ℕ → Type 0
  MeansFde section address offset = OfRow (MeansRow section.bytes) (reading_of policy.rows section address offset)

  -- by the FDE that call frames have for an address
  abbrev pub MeansFrames : CallFrames → ℕ → Type 0
  MeansFrames frames relative =
      IfSome (fde_offset_of frames relative) (MeansFde frames.section (frames.base_svma + relative))

  -- by a rule of PE unwind info: the return address and the registers that the codes or the epilog say
  abbrev pub MeansPe : Sections → ℕ → Type 0
  MeansPe sections relative =
      IfOk (readers.pe_found sections relative s.first)
      (λ found. IfSome found
      (λ _. readers.pe_computed sections relative s.first s.memory s.old ≡ Ok (s.address, s.new)))

  -- by the code around the address: the step is that of a rule which undoes a prologue or does the rest of an epilogue
  abbrev pub MeansCode : Place → Type 0
  MeansCode place =
      IfSome (meanings.by_code place.function place.code place.offset)
      (λ rule. meanings.does_code place.code place.offset rule
      × (outcome rule true s.old s.memory ≡ answered s.address s.new))

  -- by the FDE that the info names, if it does
  abbrev pub MeansNamed : Option CallFrames → ℕ → Answer Rule → Type 0
  MeansNamed frames relative (Ok (NeedDwarf offset)) =
      IfSome frames (λ f. MeansFde f.section (f.base_svma + relative) offset)
  MeansNamed frames relative (Ok (ExecRule rule)) = Unit {0}
  MeansNamed frames relative (Err error) = Unit {0}

  -- by compact unwind info: the code around the address, or the FDE that the opcode names
  abbrev pub MeansCompact : CompactData → ℕ → Type 0
  MeansCompact d relative =
      IfSome (code_place d.info relative s.first) MeansCode
      × MeansNamed d.frames relative (unwound readers.compact d.info relative s.first)

  -- by the unwind data of a module, at a relative address
  abbrev pub MeansData : UnwindData → ℕ → Type 0
  MeansData (no_unwind_data refusal) relative = Unit {0}
  MeansData (call_frames frames) relative = MeansFrames frames relative
  MeansData (pe_sections sections) relative = MeansPe sections relative
  MeansData (compact_info d) relative = MeansCompact d relative

  -- by the module that covers a lookup address
  unfoldable pub MeansStep : List ModuleView → ℕ → Type 0
  MeansStep modules address =
      IfSome (covering modules address) (λ m. MeansData m.unwind_data (address - m.base_avma))

-- a step at a location by a list of modules, from registers over a memory to a return address and the caller's
-- registers
abbrev pub MeansAt : {Rule Regs : Type 0} → Readers Rule Regs → Meanings Rule Regs
    → (Rule → Bool → Regs → Memory → Outcome Regs) → Policy → List ModuleView → FrameLocation → Regs → Memory → ℕ → Regs
    → Type 0
MeansAt readers meanings outcome policy modules location old memory address new =
    MeansStep readers meanings outcome policy
    (record { first = is_first_frame location; old = old; memory = memory; address = address; new = new })
    modules (lookup_address location)
