-- Unwinding a frame of a module by its compact unwind info, for any architecture.
-- (framehop 0.16.0, `macho.rs`.)
use Rattle.std.specs.Prelude.{ℕ, ◌-◌, ◌==◌, ◌&&◌, nat_le, nat_lt, Bool, true, false, List, length, take, drop, if◌then◌else◌, Option, Some, None, option_map, option_and_then, Result, Ok, Err}
use Rattle.framehop_macho.specs.Answer.{Answer}
use Rattle.framehop_macho.specs.UnwindInfo.{function_of}
use Rattle.framehop_macho.specs.declared.macho.CompactUnwindInfoUnwinder.{CompactUnwindInfoUnwinder}
use Rattle.framehop_macho.specs.declared.macho.CompactUnwindInfoUnwinderError.{CompactUnwindInfoUnwinderError}
use Rattle.framehop_macho.specs.declared.macho.CompactUnwindInfoUnwinderError.TheVariants.{BadFormat, AddressOutsideRange, StubFunctionCannotBeCaller}
use Rattle.framehop_macho.specs.declared.macho.CuiUnwindResult.TheVariants.{ExecRule}
use Rattle.framehop_macho.specs.declared.macho.TextBytes.{TextBytes}
use Rattle.framehop_macho.specs.declared.unwind_info.error.CompactReadError.{CompactReadError}
use Rattle.framehop_macho.specs.declared.unwind_info.info.Function.{Function}

-- code, and the offset from the module's base where it begins
pub record Text : Type 0 where
  pub from : ℕ
  pub bytes : List ℕ

-- what a module lends; ranges are of relative addresses, from the first on, up to the second
pub record Module : Type 0 where
  pub unwind_info : List ℕ
  pub text : Option Text
  pub stubs : ℕ × ℕ
  pub stub_helper : ℕ × ℕ

-- lent code, and what an unwinder was made of
abbrev pub text_of : TextBytes → Text
text_of text = record { from = text.offset_from_base_address; bytes = text.bytes.now }

abbrev pub module_of : {A Regs Rule : Type 0} → CompactUnwindInfoUnwinder A Regs Rule → Module
module_of unwinder = record {
  unwind_info = unwinder.unwind_info_data.now;
  text = option_map text_of unwinder.text_bytes;
  stubs = unwinder.stubs_range;
  stub_helper = unwinder.stub_helper_range;
}

-- the code between two addresses, if all of it is there
abbrev pub code_between : Text → ℕ → ℕ → Option (List ℕ)
code_between text start end =
    if nat_le text.from start && nat_le start end && nat_le (end - text.from) (length text.bytes)
    then Some (take (end - start) (drop (start - text.from) text.bytes)) else None

-- an address in a range
abbrev pub is_in : ℕ × ℕ → ℕ → Bool
is_in range address = nat_le range.0 address && nat_lt address range.1

-- the function of an address, or the refusal
abbrev pub function_for : Result (Option Function) CompactReadError → ℕ → Result Function CompactUnwindInfoUnwinderError
function_for (Ok (Some function)) address = Ok function
function_for (Ok None) address = Err (AddressOutsideRange address)
function_for (Err error) address = Err (BadFormat error)

-- what an architecture makes of compact unwind info: its rules in stubs, at a function's start and in helpers, and
-- what an opcode and the code say
pub record CompactReader (Rule : Type 0) : Type 0 where
  pub stub_rule : Rule
  pub start_rule : Rule
  pub helper_rule : ℕ → Rule
  pub says : Function → Bool → ℕ → Option (List ℕ) → Answer Rule

-- the same rule for each first frame; a caller frame is refused
abbrev pub first_only : {Rule : Type 0} → Bool → Rule → CompactUnwindInfoUnwinderError → Answer Rule
first_only true rule error = Ok (ExecRule rule)
first_only false rule error = Err error

-- the code of a function, if all of it is there
abbrev pub code_of : Option Text → Function → Option (List ℕ)
code_of text function = option_and_then (λ t. code_between t function.start_address function.end_address) text

-- in a function: a first frame at its start has done nothing yet
abbrev pub unwound_in : {Rule : Type 0} → CompactReader Rule → Option Text → ℕ → Bool → Function → Answer Rule
unwound_in reader text address first function =
    if first && (address == function.start_address) then Ok (ExecRule reader.start_rule)
    else reader.says function first (address - function.start_address) (code_of text function)

module _ {Rule : Type 0} (reader : CompactReader Rule) (m : Module) (address : ℕ) (first : Bool) where
  -- by the function of the address; outside the functions a first frame can be in a stub
  abbrev pub unwound_by : Result (Option Function) CompactReadError → Answer Rule
  unwound_by (Err error) = Err (BadFormat error)
  unwound_by (Ok None) = first_only first reader.stub_rule (AddressOutsideRange address)
  unwound_by (Ok (Some function)) = unwound_in reader m.text address first function

  -- What unwinding a frame (`true`: the first) at a relative address returns. `__unwind_info` does not describe
  -- `__stubs` and `__stub_helper`.
  abbrev pub unwound : Answer Rule
  unwound =
      if is_in m.stubs address then first_only first reader.stub_rule StubFunctionCannotBeCaller
      else (if is_in m.stub_helper address
      then first_only first (reader.helper_rule (address - m.stub_helper.0)) StubFunctionCannotBeCaller
      else unwound_by (function_of m.unwind_info address))
