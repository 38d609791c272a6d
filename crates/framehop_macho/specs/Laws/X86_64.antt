-- x86_64: in a first frame the rule by the code comes before the opcode.
use Rattle.std.specs.Prelude.{◌≡◌, ℕ, List, true, Some, Ok}
use Rattle.std.proofs.Common.{ap}
use Rattle.framehop_core.specs.declared.x86_64.unwind_rule.UnwindRuleX86_64.{UnwindRuleX86_64}
use Rattle.framehop_macho.specs.Answer.{rule_or}
use Rattle.framehop_macho.specs.X86_64.{by_code, by_opcode, opcode_of, says}
use Rattle.framehop_macho.specs.declared.macho.CuiUnwindResult.TheVariants.{ExecRule}
use Rattle.framehop_macho.specs.declared.unwind_info.info.Function.{Function}

pub says-by_code : (function : Function) (code : List ℕ) (offset : ℕ) (rule : UnwindRuleX86_64)
    → by_code function code offset ≡ Some rule → says function true offset (Some code) ≡ Ok (ExecRule rule)
says-by_code function code offset rule is =
    ap (λ found. rule_or found (by_opcode (opcode_of function.opcode) true (Some code))) is
