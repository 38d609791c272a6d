-- What unwinding by the data of a module has told, against what the data gives.
use Rattle.std.specs.Prelude.{◌≡◌, ◌≢◌, ℕ, Bool, true, false, MatchBool, Option, Some, None, Result, Ok, Err}
use Rattle.std.specs.Fn.{Mut}
use Rattle.framehop_core.specs.Memory.{Memory, Answering}
use Rattle.framehop_core.specs.declared.unwind_result.UnwindResult.{UnwindResult}
use Rattle.framehop_core.specs.declared.unwind_result.UnwindResult.TheVariants.{ExecRule, Uncacheable}
use Rattle.framehop_cfi.specs.declared.read_error.ReadError.TheVariants.{OutOfMemory}
use Rattle.framehop_cfi.specs.declared.dwarf_error.DwarfUnwinderError.{DwarfUnwinderError}
use Rattle.framehop_cfi.specs.declared.dwarf_error.DwarfUnwinderError.TheVariants.{FdeFromOffsetFailed, UnwindInfoForAddressFailed, StackPointerMovedBackwards, DidNotAdvance, CouldNotRecoverCfa, CouldNotRecoverReturnAddress, CouldNotRecoverFramePointer}
use Rattle.framehop_core.specs.declared.error.Error.{Error}
use Rattle.framehop_core.specs.declared.error.Error.TheVariants.{OutOfMemory as NoMemory}
use Rattle.framehop_pe.specs.declared.pe.PeUnwinderError.{PeUnwinderError}
use Rattle.framehop_pe.specs.declared.pe.PeUnwinderError.TheVariants.{MissingUnwindInfoData, MissingInstructionData, MissingStackData, UnwindInfoParseError, Aarch64Unsupported}
use Rattle.framehop.specs.Answer.{Fresh, by_rule, direct}
use Rattle.framehop.specs.declared.modules.UnwinderError.{UnwinderError}
use Rattle.framehop.specs.declared.modules.UnwinderError.TheVariants.{CompactUnwindInfo, Dwarf, Pe, NoDwarfData, NoModuleUnwindData, EhFrameHdrCouldNotFindAddress, DwarfCfiIndexCouldNotFindAddress}
use Rattle.framehop.specs.declared.frame_answer.FrameAnswer.{FrameAnswer}
use Rattle.framehop.specs.declared.frame_answer.FrameAnswer.TheVariants.{Rule, Fallback, Computed, NotComputed}

-- out of memory
abbrev pub out_of_memory : UnwinderError
out_of_memory = Dwarf (UnwindInfoForAddressFailed OutOfMemory)

-- the refusals of values, which registers and memory decide; the bytes decide the others, but for out of memory
abbrev pub is_of_row_values : DwarfUnwinderError → Bool
is_of_row_values (FdeFromOffsetFailed error) = false
is_of_row_values (UnwindInfoForAddressFailed error) = false
is_of_row_values StackPointerMovedBackwards = true
is_of_row_values DidNotAdvance = true
is_of_row_values CouldNotRecoverCfa = true
is_of_row_values CouldNotRecoverReturnAddress = true
is_of_row_values CouldNotRecoverFramePointer = true

abbrev pub is_of_pe_values : PeUnwinderError → Bool
is_of_pe_values (MissingStackData address) = true
is_of_pe_values (MissingUnwindInfoData rva) = false
is_of_pe_values (MissingInstructionData rva) = false
is_of_pe_values UnwindInfoParseError = false
is_of_pe_values Aarch64Unsupported = false

abbrev pub is_of_values : UnwinderError → Bool
is_of_values (Dwarf error) = is_of_row_values error
is_of_values (Pe error) = is_of_pe_values error
is_of_values (CompactUnwindInfo error) = false
is_of_values NoDwarfData = false
is_of_values NoModuleUnwindData = false
is_of_values EhFrameHdrCouldNotFindAddress = false
is_of_values DwarfCfiIndexCouldNotFindAddress = false

-- values are to be computed
abbrev pub IsDirect : {Rule Regs : Type 0} → Option (Fresh Rule Regs) → Type 0
IsDirect None = ⊥
IsDirect (Some (by_rule rule)) = ⊥
IsDirect (Some (direct compute)) = Unit {0}

-- the values, if there are any
abbrev pub values_in : {Rule Regs : Type 0} → Option (Fresh Rule Regs) → Regs → Memory → Option (ℕ × Regs)
values_in None regs memory = None
values_in (Some (by_rule rule)) regs memory = None
values_in (Some (direct compute)) regs memory = compute regs memory

-- what is told whatever the callback replies: the rule, that values are computed, or that there is nothing
abbrev pub TellsAnswer : {Rule Regs : Type 0} → Option (Fresh Rule Regs) → Result (UnwindResult Rule) UnwinderError
    → Type 0
TellsAnswer answer (Ok (ExecRule rule)) = answer ≡ Some (by_rule rule)
TellsAnswer answer (Ok (Uncacheable address)) = IsDirect answer
TellsAnswer answer (Err error) = MatchBool (is_of_values error) (IsDirect answer) (answer ≡ None)

-- the values over memory, or that there are none
abbrev pub TellsValues : {Rule Regs : Type 0} → Option (Fresh Rule Regs) → Regs → Memory
    → Result (UnwindResult Rule) UnwinderError → Regs → Type 0
TellsValues answer old memory (Ok (ExecRule rule)) new = Unit {0}
TellsValues answer old memory (Ok (Uncacheable address)) new = values_in answer old memory ≡ Some (address, new)
TellsValues answer old memory (Err error) new =
    MatchBool (is_of_values error) (values_in answer old memory ≡ None) (Unit {0})

-- A frame is unwound by what the unwind data gives: it is told whatever the callback replies, and the values are those
-- over a memory as which the callback answers. Where memory ran out, nothing is told.
abbrev pub UnwindsBy : {Rule Regs Callback : Type 0} → Option (Fresh Rule Regs) → Regs
    → Result (UnwindResult Rule) UnwinderError → Regs → Mut Callback (ℕ × Unit {0}) (Result ℕ (Unit {0}))
    → Callback → Callback → Type 0
UnwindsBy answer old result new calls callback called =
    (result ≢ Err out_of_memory → TellsAnswer answer result)
    × Answering calls callback called (λ memory. result ≢ Err out_of_memory → TellsValues answer old memory result new)

-- ---- with the fallback rule where there is nothing

-- what is made of a refusal: out of memory is answered, values that can't be computed are told, and where the bytes
-- give nothing it is the fallback rule
pub data IsMadeOf {R : Type 0} (error : UnwinderError) (answer : Result (FrameAnswer R) Error) : Type 0 where
  no_memory : error ≡ out_of_memory → answer ≡ Err NoMemory → IsMadeOf error answer
  no_values : error ≢ out_of_memory → is_of_values error ≡ true → answer ≡ Ok NotComputed → IsMadeOf error answer
  nothing : error ≢ out_of_memory → is_of_values error ≡ false → answer ≡ Ok Fallback → IsMadeOf error answer

-- what is made of what was found
abbrev pub IsAnswerOf : {R : Type 0} → Result (UnwindResult R) UnwinderError → Result (FrameAnswer R) Error → Type 0
IsAnswerOf (Ok (ExecRule rule)) answer = answer ≡ Ok (Rule rule)
IsAnswerOf (Ok (Uncacheable address)) answer = answer ≡ Ok (Computed address)
IsAnswerOf (Err error) answer = IsMadeOf error answer

-- what is told of the modules' answer for an address
abbrev pub TellsFresh : {Rule Regs : Type 0} → Rule → Fresh Rule Regs → FrameAnswer Rule → Type 0
TellsFresh fallback answer (Rule rule) = answer ≡ by_rule rule
TellsFresh fallback answer Fallback = answer ≡ by_rule fallback
TellsFresh fallback answer (Computed address) = IsDirect (Some answer)
TellsFresh fallback answer NotComputed = IsDirect (Some answer)

-- the values that were computed are those of the fresh answer
abbrev pub TellsFreshValues : {Rule Regs : Type 0} → Fresh Rule Regs → Regs → Memory → FrameAnswer Rule → Regs → Type 0
TellsFreshValues answer old memory (Rule rule) new = Unit {0}
TellsFreshValues answer old memory Fallback new = Unit {0}
TellsFreshValues answer old memory (Computed address) new = values_in (Some answer) old memory ≡ Some (address, new)
TellsFreshValues answer old memory NotComputed new = values_in (Some answer) old memory ≡ None

-- registers are written with computed values only
abbrev pub WritesComputed : {Rule Regs : Type 0} → (Regs → Regs → Type 0) → FrameAnswer Rule → Regs → Regs → Type 0
WritesComputed Advances (Rule rule) old new = new ≡ old
WritesComputed Advances Fallback old new = new ≡ old
WritesComputed Advances (Computed address) old new = Advances old new
WritesComputed Advances NotComputed old new = new ≡ old

-- a rule that is told has the property
abbrev pub AnswerHas : {Rule : Type 0} → (Rule → Type 0) → FrameAnswer Rule → Type 0
AnswerHas P (Rule rule) = P rule
AnswerHas P Fallback = Unit {0}
AnswerHas P (Computed address) = Unit {0}
AnswerHas P NotComputed = Unit {0}
