-- A frame of a function with x64 unwind info (Microsoft, "x64 exception handling", "Unwind procedure").
-- The rule is `rule_of_operations` of `framehop_core`.
use Rattle.std.specs.Prelude.{ℕ, ◌-◌, Bool, true, false, nat_le, if◌then◌else◌, List, [], length, take, map, Option, Some, None, option_map, Result, Ok, Err}
use Rattle.framehop_bytes.specs.Bytes.{◌>>=◌}
use Rattle.framehop_core.specs.Memory.{Memory}
use Rattle.framehop_core.specs.X86_64.Registers.{Registers}
use Rattle.framehop_core.specs.X86_64.RuleOfOperations.{rule_of_operations}
use Rattle.framehop_core.specs.declared.x86_64.unwindregs.Reg.{Reg}
use Rattle.framehop_core.specs.declared.x86_64.unwind_rule.OffsetOrPop.{OffsetOrPop}
use Rattle.framehop_core.specs.declared.x86_64.unwind_rule.UnwindRuleX86_64.{UnwindRuleX86_64}
use Rattle.framehop_pe.specs.Chain.{header_at, operations_from}
use Rattle.framehop_pe.specs.Epilog.{epilog_of}
use Rattle.framehop_pe.specs.EpilogRun.{ran}
use Rattle.framehop_pe.specs.FunctionTable.{function_of}
use Rattle.framehop_pe.specs.Info.{Header}
use Rattle.framehop_pe.specs.Offsets.{of_instruction, of_operation}
use Rattle.framehop_pe.specs.Resolve.{Caller, resolved}
use Rattle.framehop_pe.specs.Sections.{Sections, text_at}
use Rattle.framehop_pe.specs.declared.pe.PeUnwinderError.{PeUnwinderError}
use Rattle.framehop_pe.specs.declared.pe.PeUnwinderError.TheVariants.{MissingInstructionData}
use Rattle.framehop_pe.specs.declared.unwind_info.chain.FramedOperation.{FramedOperation}
use Rattle.framehop_pe.specs.declared.unwind_info.epilog.FunctionEpilogInstruction.{FunctionEpilogInstruction}
use Rattle.framehop_pe.specs.declared.unwind_info.function_table.RuntimeFunction.{RuntimeFunction}

-- ---- what leads to the caller

-- What leads from a frame to its caller: what is left of an epilog, in a function with a frame register or without one,
-- or the operations that undo a prolog.
pub data Way : Type 0 where
  by_epilog : Option Reg → List FunctionEpilogInstruction → Way
  by_codes : List FramedOperation → Way

-- the way that the bytes say, or the refusal that they give
abbrev pub WayOrRefusal : Type 0
WayOrRefusal = Result Way PeUnwinderError

-- the frame register of a header
abbrev pub frame_register : Header → Option Reg
frame_register header = option_map (λ frame. frame.register) header.frame

-- the code from a relative address on, of this size
abbrev pub sized : ℕ → ℕ → Option (List ℕ) → Result (List ℕ) PeUnwinderError
sized address size None = Err (MissingInstructionData address)
sized address size (Some bytes) =
    if nat_le size (length bytes) then Ok (take size bytes) else Err (MissingInstructionData address)

-- the code from an address in a function up to the function's end
unfoldable pub code_at : Sections → RuntimeFunction → ℕ → Result (List ℕ) PeUnwinderError
code_at sections function address = sized address (function.end_address - address) (text_at sections address)

-- the instructions of an epilog, if there is one
abbrev pub Epilog : Type 0
Epilog = Option (List FunctionEpilogInstruction)

-- what is left of an epilog at an address in a function, if the code there is an epilog
unfoldable pub epilog_at : Sections → RuntimeFunction → Option Reg → ℕ → Result Epilog PeUnwinderError
epilog_at sections function frame address = do
  code ← code_at sections function address
  Ok (epilog_of frame (function.end_address - function.begin_address) code)

-- the operations at an address in a function
abbrev pub codes_way : Sections → RuntimeFunction → Header → ℕ → WayOrRefusal
codes_way sections function header address = do
  operations ← operations_from sections header (address - function.begin_address)
  Ok (by_codes operations)

-- an epilog, else the operations
abbrev pub epilog_or : Option Reg → Epilog → WayOrRefusal → WayOrRefusal
epilog_or frame (Some instructions) other = Ok (by_epilog frame instructions)
epilog_or frame None other = other

-- in a first frame the address may be in an epilog, which the codes do not describe
abbrev pub way_in : Bool → Sections → RuntimeFunction → Header → ℕ → WayOrRefusal
way_in true sections function header address = do
  found ← epilog_at sections function (frame_register header) address
  epilog_or (frame_register header) found (codes_way sections function header address)
way_in false sections function header address = codes_way sections function header address

-- the way from an address in a function, in a first frame (`true`) or another
unfoldable pub way_of : Bool → Sections → RuntimeFunction → ℕ → WayOrRefusal
way_of first sections function address = do
  header ← header_at sections function.unwind_info_address
  way_in first sections function header address

-- the way from an address: a function that the table does not have saves nothing, and there is nothing to undo
abbrev pub way_or_leaf : Bool → Sections → ℕ → Option RuntimeFunction → WayOrRefusal
way_or_leaf first sections address None = Ok (by_codes [])
way_or_leaf first sections address (Some function) = way_of first sections function address

abbrev pub way_at : Sections → ℕ → Bool → WayOrRefusal
way_at sections address first = way_or_leaf first sections address (function_of sections.pdata address)

-- the offsets and pops of a way
abbrev pub offsets_and_pops : Way → List OffsetOrPop
offsets_and_pops (by_epilog frame instructions) = map of_instruction instructions
offsets_and_pops (by_codes operations) = map (λ framed. of_operation framed.operation) operations

-- a return address is the caller's instruction pointer
abbrev pub returned : Caller → Caller
returned (Ok (address, r)) = Ok (address, record r { ip = address })
returned (Err error) = Err error

-- the return address and the caller's registers along a way, over memory
abbrev pub along : Way → Memory → Registers → Caller
along (by_epilog frame instructions) memory r = returned (ran memory frame instructions r)
along (by_codes operations) memory r = returned (resolved memory operations r)

-- ---- what is returned

-- the rule of a way, if its offsets and pops have one
abbrev pub rule_along : Way → Option UnwindRuleX86_64
rule_along way = rule_of_operations (offsets_and_pops way)

-- what the bytes give: their refusal, or a rule, or none
abbrev pub found_of : WayOrRefusal → Result (Option UnwindRuleX86_64) PeUnwinderError
found_of told = do
  way ← told
  Ok (rule_along way)

unfoldable pub found_at : Sections → ℕ → Bool → Result (Option UnwindRuleX86_64) PeUnwinderError
found_at sections address first = found_of (way_at sections address first)

-- the return address and the caller's registers along the way that the bytes say, over memory
abbrev pub computed_of : WayOrRefusal → Memory → Registers → Caller
computed_of told memory r = do
  way ← told
  along way memory r

unfoldable pub computed_at : Sections → ℕ → Bool → Memory → Registers → Caller
computed_at sections address first = computed_of (way_at sections address first)
