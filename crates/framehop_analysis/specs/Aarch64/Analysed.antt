-- The rule of the code analysis on aarch64, as a function of the code.
use Rattle.std.specs.Prelude.{ℕ, List, take, drop, Option}
use Rattle.framehop_core.specs.declared.aarch64.unwind_rule.UnwindRuleAarch64.{UnwindRuleAarch64}
use Rattle.framehop_analysis.specs.Answer.{IsOnly, Decided, FirstOf}
use Rattle.framehop_analysis.specs.Aarch64.Prologue.{IsPrologueRule}
use Rattle.framehop_analysis.specs.Aarch64.Epilogue.{IsEpilogueRule}
use Rattle.framehop_analysis.specs.Laws.Answer.{first-decided}
use Rattle.framehop_analysis.specs.Laws.Aarch64.Prologue.{prologue-decided}
use Rattle.framehop_analysis.specs.Laws.Aarch64.Epilogue.{epilogue-decided}

-- the rule at an offset of code: of a prologue or, where none is recognised, of an epilogue
abbrev pub IsAnalysisRule : List ℕ → ℕ → UnwindRuleAarch64 → Type 0
IsAnalysisRule text pc rule =
    FirstOf (IsPrologueRule (take pc text) (drop pc text)) (IsEpilogueRule text pc) rule

-- there is one such rule or none
pub decided : (text : List ℕ) (pc : ℕ) → Decided (IsAnalysisRule text pc)
decided text pc =
    first-decided (IsPrologueRule (take pc text) (drop pc text)) (IsEpilogueRule text pc)
    (prologue-decided (take pc text) (drop pc text)) (epilogue-decided text pc)

-- the rule of the analysis: the only one there is, or none
unfoldable pub analysed : List ℕ → ℕ → Option UnwindRuleAarch64
analysed text pc = (decided text pc).0

pub analysed-only : (text : List ℕ) (pc : ℕ) → IsOnly (IsAnalysisRule text pc) (analysed text pc)
unfolding analysed
analysed-only text pc = (decided text pc).1
