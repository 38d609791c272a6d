-- aarch64: in a first frame the rule by the code comes before the opcode.
use Rattle.std.specs.Prelude.{◌≡◌, ℕ, List, true, Some, Ok}
use Rattle.std.proofs.Common.{ap}
use Rattle.framehop_core.specs.declared.aarch64.unwind_rule.UnwindRuleAarch64.{UnwindRuleAarch64}
use Rattle.framehop_analysis.specs.Aarch64.Analysed.{analysed}
use Rattle.framehop_macho.specs.Answer.{rule_or}
use Rattle.framehop_macho.specs.Aarch64.{analysed_with, by_code, by_opcode, opcode_of, says}
use Rattle.framehop_macho.specs.declared.aarch64.opcode.OpcodeArm64.{OpcodeArm64}
use Rattle.framehop_macho.specs.declared.aarch64.opcode.OpcodeArm64.TheVariants.{Null, Frameless, Dwarf, FrameBased, UnrecognizedKind}
use Rattle.framehop_macho.specs.declared.macho.CuiUnwindResult.TheVariants.{ExecRule}
use Rattle.framehop_macho.specs.declared.unwind_info.info.Function.{Function}

pub says-by_code : (function : Function) (code : List ℕ) (offset : ℕ) (rule : UnwindRuleAarch64)
    → by_code function code offset ≡ Some rule → says function true offset (Some code) ≡ Ok (ExecRule rule)
says-by_code function code offset rule is = ap (λ found. rule_or found (by_opcode (opcode_of function.opcode) true)) is

-- that is the rule that the analysis finds
with-opcode : (opcode : OpcodeArm64) (code : List ℕ) (offset : ℕ) (rule : UnwindRuleAarch64)
    → analysed_with opcode code offset ≡ Some rule → analysed code offset ≡ Some rule
with-opcode Null code offset rule is = cc
with-opcode (Frameless size) code offset rule is = is
with-opcode (Dwarf fde) code offset rule is = is
with-opcode FrameBased code offset rule is = is
with-opcode (UnrecognizedKind kind) code offset rule is = is

pub by_code-analysed : (function : Function) (code : List ℕ) (offset : ℕ) (rule : UnwindRuleAarch64)
    → by_code function code offset ≡ Some rule → analysed code offset ≡ Some rule
by_code-analysed function code offset rule is = with-opcode (opcode_of function.opcode) code offset rule is
