-- Compact unwind info on aarch64 (Apple, compact_unwind_encoding.h, UNWIND_ARM64_..): opcodes and their rules.
-- (framehop 0.16.0, `aarch64/macho.rs`.)
use Rattle.std.specs.Prelude.{ℕ, ◌==◌, nat_lt, Bool, true, false, List, if◌then◌else◌, Option, Some, None, Ok, Err}
use Rattle.framehop_core.specs.declared.aarch64.unwind_rule.UnwindRuleAarch64.{UnwindRuleAarch64}
use Rattle.framehop_core.specs.declared.aarch64.unwind_rule.UnwindRuleAarch64.TheVariants.{NoOp, OffsetSp, UseFramePointer}
use Rattle.framehop_core.specs.Bits.{bits_at}
use Rattle.framehop_analysis.specs.Aarch64.Analysed.{analysed}
use Rattle.framehop_macho.specs.Answer.{Answer, rule_or}
use Rattle.framehop_macho.specs.declared.aarch64.opcode.OpcodeArm64.{OpcodeArm64}
use Rattle.framehop_macho.specs.declared.aarch64.opcode.OpcodeArm64.TheVariants.{Null, Frameless, Dwarf, FrameBased, UnrecognizedKind}
use Rattle.framehop_macho.specs.declared.macho.CompactUnwindInfoUnwinderError.TheVariants.{CallerCannotBeFrameless, FunctionHasNoInfo, BadOpcodeKind}
use Rattle.framehop_macho.specs.declared.macho.CuiUnwindResult.TheVariants.{ExecRule, NeedDwarf}
use Rattle.framehop_macho.specs.declared.unwind_info.info.Function.{Function}

-- the opcode of a word, by its mode in bits 24 to 27; a frameless function's stack size is in units of 16 bytes
unfoldable pub opcode_of : ℕ → OpcodeArm64
opcode_of word = (let mode = bits_at word 24 4 in
    if mode == 0 then Null
    else (if mode == 2 then Frameless (bits_at word 12 12)
    else (if mode == 3 then Dwarf (bits_at word 0 24)
    else (if mode == 4 then FrameBased
    else UnrecognizedKind mode))))

-- what an opcode says, of a first frame (`true`) or another
abbrev pub by_opcode : OpcodeArm64 → Bool → Answer UnwindRuleAarch64
by_opcode Null true = Ok (ExecRule NoOp)
by_opcode Null false = Err FunctionHasNoInfo
by_opcode (Frameless size) true = if size == 0 then Ok (ExecRule NoOp) else Ok (ExecRule (OffsetSp size))
by_opcode (Frameless size) false = Err CallerCannotBeFrameless
by_opcode (Dwarf fde) first = Ok (NeedDwarf fde)
by_opcode FrameBased first = Ok (ExecRule UseFramePointer)
by_opcode (UnrecognizedKind kind) first = Err (BadOpcodeKind kind)

-- the rule by the code around an offset of a function with info, if the code gives one
abbrev pub analysed_with : OpcodeArm64 → List ℕ → ℕ → Option UnwindRuleAarch64
analysed_with Null code offset = None
analysed_with opcode code offset = analysed code offset

abbrev pub by_code : Function → List ℕ → ℕ → Option UnwindRuleAarch64
by_code function code offset = analysed_with (opcode_of function.opcode) code offset

-- a first frame: the code analysis comes first
abbrev pub says_first : OpcodeArm64 → ℕ → Option (List ℕ) → Answer UnwindRuleAarch64
says_first opcode offset None = by_opcode opcode true
says_first opcode offset (Some code) = rule_or (analysed_with opcode code offset) (by_opcode opcode true)

-- What unwinding a frame at an offset of a function returns.
abbrev pub says : Function → Bool → ℕ → Option (List ℕ) → Answer UnwindRuleAarch64
says function true offset code = says_first (opcode_of function.opcode) offset code
says function false offset code = by_opcode (opcode_of function.opcode) false

-- ---- `__stub_helper`

-- The section begins with 24 bytes that all stubs share; bytes 12 to 24 of them run after the push of two registers.
abbrev pub helper_rule : ℕ → UnwindRuleAarch64
helper_rule offset =
    if nat_lt offset 12 then NoOp
    else (if nat_lt offset 24 then OffsetSp 1
    else NoOp)
