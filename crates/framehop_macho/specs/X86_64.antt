-- Compact unwind info on x86_64 (Apple, compact_unwind_encoding.h, UNWIND_X86_64_..): opcodes and their rules.
-- (framehop 0.16.0, `x86_64/macho.rs`.)
use Rattle.std.specs.Prelude.{ℕ, ◌+◌, ◌-◌, ◌*◌, ◌/◌, ◌%◌, ◌^◌, ◌==◌, ◌&&◌, nat_eq, nat_le, nat_lt, pos, ◌-ℤ◌, Bool, true, false, List, [], ◌∷◌, length, if◌then◌else◌, Option, Some, None, Result, Ok, Err}
use Rattle.std.specs.List.{starts_with}
use Rattle.framehop_bytes.specs.Bytes.{le4}
use Rattle.framehop_core.specs.declared.x86_64.unwind_rule.UnwindRuleX86_64.{UnwindRuleX86_64}
use Rattle.framehop_core.specs.declared.x86_64.unwind_rule.UnwindRuleX86_64.TheVariants.{JustReturn, OffsetSp, OffsetSpAndRestoreBp, UseFramePointer}
use Rattle.framehop_core.specs.Bits.{bits_at}
use Rattle.framehop_analysis.specs.X86_64.Analysed.{analysed}
use Rattle.framehop_macho.specs.Answer.{Answer, exec_rule, rule_or}
use Rattle.framehop_macho.specs.SavedRegisters.{saved_registers, bp_position}
use Rattle.framehop_bytes.specs.Bytes.{◌>>=◌}
use Rattle.framehop_macho.specs.declared.macho.CompactUnwindInfoUnwinderError.{CompactUnwindInfoUnwinderError}
use Rattle.framehop_macho.specs.declared.macho.CompactUnwindInfoUnwinderError.TheVariants.{FunctionHasNoInfo, BpOffsetDoesNotFit, BadOpcodeKind, NoTextBytesToLookUpIndirectStackOffset, IndirectStackOffsetOutOfBounds, StackAdjustOverflow, StackSizeDoesNotFit, InvalidFrameless}
use Rattle.framehop_macho.specs.declared.macho.CuiUnwindResult.TheVariants.{ExecRule, NeedDwarf}
use Rattle.framehop_macho.specs.declared.unwind_info.info.Function.{Function}
use Rattle.framehop_macho.specs.declared.x86_64.opcode.OpcodeX86_64.{OpcodeX86_64}
use Rattle.framehop_macho.specs.declared.x86_64.opcode.OpcodeX86_64.TheVariants.{Null, FrameBased, FramelessImmediate, FramelessIndirect, Dwarf, InvalidFrameless as NoSuchList, UnrecognizedKind}
use Rattle.framehop_macho.specs.declared.x86_64.saved_registers.RegisterNameX86_64.{RegisterNameX86_64}

-- ---- opcodes

-- a frameless function with a list of saved registers, where there is such a list
abbrev pub frameless : (Option ℕ → OpcodeX86_64) → Option (List RegisterNameX86_64) → OpcodeX86_64
frameless opcode None = NoSuchList
frameless opcode (Some saved) = opcode (bp_position saved)

-- the list of an opcode: the count in bits 10 to 12, the rank in bits 0 to 9
abbrev pub saved_in : ℕ → Option (List RegisterNameX86_64)
saved_in word = saved_registers (bits_at word 10 3) (bits_at word 0 10)

-- a stack size in the opcode: bits 16 to 23, in units of 8 bytes
abbrev pub size_in_word : ℕ → Option ℕ → OpcodeX86_64
size_in_word word bp = FramelessImmediate (bits_at word 16 8 * 8) bp

-- a stack size in the function's code, at the offset in bits 16 to 23; what pushes add is in bits 13 to 15, in units
-- of 8 bytes
abbrev pub size_in_code : ℕ → Option ℕ → OpcodeX86_64
size_in_code word bp = FramelessIndirect (bits_at word 16 8) (bits_at word 13 3 * 8) bp

-- the opcode of a word, by its mode in bits 24 to 27
unfoldable pub opcode_of : ℕ → OpcodeX86_64
opcode_of word = (let mode = bits_at word 24 4 in
    if mode == 0 then Null
    else (if mode == 1 then FrameBased
    else (if mode == 2 then frameless (size_in_word word) (saved_in word)
    else (if mode == 3 then frameless (size_in_code word) (saved_in word)
    else (if mode == 4 then Dwarf (bits_at word 0 24)
    else UnrecognizedKind mode)))))

-- ---- rules

-- the stored rbp in words from rsp: its place, itself and the return address lie above it; 16 bits hold it
abbrev pub with_bp : ℕ → Option ℕ → Result UnwindRuleX86_64 CompactUnwindInfoUnwinderError
with_bp words None = Ok (OffsetSp words)
with_bp words (Some place) =
    if nat_lt words (2 ^ 15 + 2 + place) then Ok (OffsetSpAndRestoreBp words (pos words -ℤ pos (2 + place)))
    else Err BpOffsetDoesNotFit

-- a stack of so many bytes, with rbp stored at a place, if it is
abbrev pub frameless_rule : ℕ → Option ℕ → Result UnwindRuleX86_64 CompactUnwindInfoUnwinderError
frameless_rule size bp =
    if (size % 8 == 0) && nat_lt (size / 8) (2 ^ 16) then with_bp (size / 8) bp else Err StackSizeDoesNotFit

-- a stack size of 8 is the return address
abbrev pub immediate_rule : ℕ → Option ℕ → Result UnwindRuleX86_64 CompactUnwindInfoUnwinderError
immediate_rule size bp = if size == 8 then Ok JustReturn else frameless_rule size bp

-- the number in a function's code that its `sub rsp` subtracts
abbrev pub immediate_in : Option (List ℕ) → ℕ → Result ℕ CompactUnwindInfoUnwinderError
immediate_in None at = Err NoTextBytesToLookUpIndirectStackOffset
immediate_in (Some code) at =
    if nat_le (at + 4) (length code) then Ok (le4 code at) else Err IndirectStackOffsetOutOfBounds

-- what pushes add to it
abbrev pub adjusted : ℕ → ℕ → Result ℕ CompactUnwindInfoUnwinderError
adjusted immediate adjust =
    if nat_lt (immediate + adjust) (2 ^ 32) then Ok (immediate + adjust) else Err StackAdjustOverflow

-- the stack size by a `sub rsp` in the code, with what pushes add to it
unfoldable pub indirect_size : Option (List ℕ) → ℕ → ℕ → Result ℕ CompactUnwindInfoUnwinderError
indirect_size code at adjust = immediate_in code at >>= (λ immediate. adjusted immediate adjust)

-- `push rbp; mov rbp, rsp`
abbrev pub frame_set_up : List ℕ
frame_set_up = 0x55 ∷ 0x48 ∷ 0x89 ∷ 0xe5 ∷ []

-- the rule in a first frame of a function without info
abbrev pub uncovered_rule : Option (List ℕ) → UnwindRuleX86_64
uncovered_rule None = JustReturn
uncovered_rule (Some code) = if starts_with nat_eq code frame_set_up then UseFramePointer else JustReturn

-- a function without info has that rule in a first frame only
abbrev pub null_rule : Bool → Option (List ℕ) → Result UnwindRuleX86_64 CompactUnwindInfoUnwinderError
null_rule true code = Ok (uncovered_rule code)
null_rule false code = Err FunctionHasNoInfo

-- what an opcode says, of a first frame (`true`) or another, and the function's code
abbrev pub by_opcode : OpcodeX86_64 → Bool → Option (List ℕ) → Answer UnwindRuleX86_64
by_opcode Null first code = exec_rule (null_rule first code)
by_opcode FrameBased first code = Ok (ExecRule UseFramePointer)
by_opcode (FramelessImmediate size bp) first code = exec_rule (immediate_rule size bp)
by_opcode (FramelessIndirect at adjust bp) first code =
    exec_rule (indirect_size code at adjust >>= (λ size. frameless_rule size bp))
by_opcode (Dwarf fde) first code = Ok (NeedDwarf fde)
by_opcode NoSuchList first code = Err InvalidFrameless
by_opcode (UnrecognizedKind kind) first code = Err (BadOpcodeKind kind)

-- the rule by the code around an offset of a function, if the code gives one
abbrev pub by_code : Function → List ℕ → ℕ → Option UnwindRuleX86_64
by_code function code offset = analysed code offset

-- What unwinding a frame at an offset of a function returns. In a first frame the code analysis comes first.
abbrev pub says : Function → Bool → ℕ → Option (List ℕ) → Answer UnwindRuleX86_64
says function true offset (Some code) =
    rule_or (analysed code offset) (by_opcode (opcode_of function.opcode) true (Some code))
says function true offset None = by_opcode (opcode_of function.opcode) true None
says function false offset code = by_opcode (opcode_of function.opcode) false code

-- ---- `__stub_helper`

-- The section begins with 16 bytes that all stubs share: `lea r11; push r11; jmp; nop`. After them come stubs of 10
-- bytes: `push; jmp`, to the shared ones.
abbrev pub helper_rule : ℕ → UnwindRuleX86_64
helper_rule offset =
    if nat_lt offset 7 then OffsetSp 2
    else (if nat_lt offset 16 then OffsetSp 3
    else (if nat_lt ((offset - 16) % 10) 5 then JustReturn
    else OffsetSp 2))
