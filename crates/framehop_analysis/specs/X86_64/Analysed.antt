-- The rule of the code analysis on x86_64, as a function of the code.
use Rattle.std.specs.Prelude.{ℕ, List, Option}
use Rattle.framehop_core.specs.declared.x86_64.unwind_rule.UnwindRuleX86_64.{UnwindRuleX86_64}
use Rattle.framehop_analysis.specs.Answer.{IsOnly, Decided, FirstOf}
use Rattle.framehop_analysis.specs.X86_64.Prologue.{IsPrologueRule}
use Rattle.framehop_analysis.specs.X86_64.Epilogue.{IsEpilogueRule}
use Rattle.framehop_analysis.specs.Laws.Answer.{first-decided}
use Rattle.framehop_analysis.specs.Laws.X86_64.Prologue.{prologue-decided}
use Rattle.framehop_analysis.specs.Laws.X86_64.Epilogue.{epilogue-decided}

-- the rule at an offset of code: of a prologue or, where none is recognised, of an epilogue
abbrev pub IsAnalysisRule : List ℕ → ℕ → UnwindRuleX86_64 → Type 0
IsAnalysisRule text pc rule = FirstOf (IsPrologueRule text pc) (IsEpilogueRule text pc) rule

-- there is one such rule or none
pub decided : (text : List ℕ) (pc : ℕ) → Decided (IsAnalysisRule text pc)
decided text pc =
    first-decided (IsPrologueRule text pc) (IsEpilogueRule text pc)
    (prologue-decided text pc) (epilogue-decided text pc)

-- the rule of the analysis: the only one there is, or none
unfoldable pub analysed : List ℕ → ℕ → Option UnwindRuleX86_64
analysed text pc = (decided text pc).0

pub analysed-only : (text : List ℕ) (pc : ℕ) → IsOnly (IsAnalysisRule text pc) (analysed text pc)
unfolding analysed
analysed-only text pc = (decided text pc).1
