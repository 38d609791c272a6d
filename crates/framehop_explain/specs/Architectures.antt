-- How the two architectures explain frames under a policy.
use Rattle.std.specs.Prelude.{take, drop}
use Rattle.framehop_core.specs.Aarch64.Registers.{Registers as RegistersAarch64}
use Rattle.framehop_core.specs.X86_64.Registers.{Registers as RegistersX86_64}
use Rattle.framehop_core.specs.declared.aarch64.unwind_rule.UnwindRuleAarch64.{UnwindRuleAarch64}
use Rattle.framehop_core.specs.declared.aarch64.unwind_rule.UnwindRuleAarch64.TheVariants as aarch64_rule
use Rattle.framehop_core.specs.declared.x86_64.unwind_rule.UnwindRuleX86_64.{UnwindRuleX86_64}
use Rattle.framehop_core.specs.declared.x86_64.unwind_rule.UnwindRuleX86_64.TheVariants as x86_64_rule
use Rattle.framehop_analysis.specs.Aarch64.Prologue.{IsPrologueRule as IsPrologueRuleAarch64}
use Rattle.framehop_analysis.specs.Aarch64.Epilogue.{IsEpilogueRule as IsEpilogueRuleAarch64}
use Rattle.framehop_analysis.specs.X86_64.Prologue.{IsPrologueRule as IsPrologueRuleX86_64}
use Rattle.framehop_analysis.specs.X86_64.Epilogue.{IsEpilogueRule as IsEpilogueRuleX86_64}
use Rattle.framehop_macho.specs.Aarch64.{by_code as by_code_aarch64}
use Rattle.framehop_macho.specs.X86_64.{by_code as by_code_x86_64}
use Rattle.framehop.specs.Aarch64.{aarch64_readers}
use Rattle.framehop.specs.Policy.{Policy}
use Rattle.framehop.specs.X86_64.{x86_64_readers}
use Rattle.framehop_explain.specs.Found.{Explaining, explaining_by}
use Rattle.framehop_explain.specs.PeSource.{source_at}
use Rattle.framehop_explain.specs.RuleText.{aarch64_rule_text, x86_64_rule_text}
use Rattle.framehop_explain.specs.declared.source.PeSource.TheVariants.{Unsupported}

-- by what their readers of unwind data give, the code analysis, and their rules as text
abbrev pub explaining_aarch64 : Policy → Explaining UnwindRuleAarch64 RegistersAarch64
explaining_aarch64 policy =
    explaining_by aarch64_readers (λ sections address first. Unsupported)
    (record {
      by_code = by_code_aarch64;
      prologue = λ text pc rule. IsPrologueRuleAarch64 (take pc text) (drop pc text) rule;
      epilogue = IsEpilogueRuleAarch64;
    })
    aarch64_rule_text aarch64_rule.UseFramePointer policy

abbrev pub explaining_x86_64 : Policy → Explaining UnwindRuleX86_64 RegistersX86_64
explaining_x86_64 policy =
    explaining_by x86_64_readers source_at
    (record { by_code = by_code_x86_64; prologue = IsPrologueRuleX86_64; epilogue = IsEpilogueRuleX86_64 })
    x86_64_rule_text x86_64_rule.UseFramePointer policy
