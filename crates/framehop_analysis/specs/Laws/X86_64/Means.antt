-- x86_64: the rule that the analysis finds does what it is for.
use Rattle.std.specs.Prelude.{◌≡◌, ℕ, List, ◌⊎◌, Some}
use Rattle.framehop_core.specs.declared.x86_64.unwind_rule.UnwindRuleX86_64.{UnwindRuleX86_64}
use Rattle.framehop_analysis.specs.X86_64.Analysed.{analysed, analysed-only}
use Rattle.framehop_analysis.specs.X86_64.Prologue.{IsPrologueRule, ReachesFrom, UndoesPrologue}
use Rattle.framehop_analysis.specs.X86_64.Epilogue.{IsEpilogueRule, EndsFrom, DoesEpilogue}
use Rattle.framehop_analysis.specs.Laws.Answer.{means-first}
use Rattle.framehop_analysis.specs.Laws.X86_64.Undoes.{undoes}
use Rattle.framehop_analysis.specs.Laws.X86_64.Reaches.{reaches-from, ends-from}
use Rattle.framehop_analysis.specs.Laws.X86_64.Does.{does}

pub analysed-means : (text : List ℕ) (pc : ℕ) (rule : UnwindRuleX86_64) → analysed text pc ≡ Some rule
    → (IsPrologueRule text pc rule × ReachesFrom text pc × UndoesPrologue text pc rule)
    ⊎ (IsEpilogueRule text pc rule × EndsFrom text pc × DoesEpilogue text pc rule)
analysed-means text pc =
    means-first _ _ (analysed text pc) (analysed-only text pc)
    (λ rule p. (p, reaches-from text pc rule p, undoes text pc rule p))
    (λ rule e. (e, ends-from text pc rule e, does text pc rule e))
