-- aarch64: the rule that the analysis finds does what it is for.
use Rattle.std.specs.Prelude.{◌≡◌, ℕ, List, ◌⊎◌, Some, take, drop}
use Rattle.framehop_core.specs.declared.aarch64.unwind_rule.UnwindRuleAarch64.{UnwindRuleAarch64}
use Rattle.framehop_analysis.specs.Aarch64.Analysed.{analysed, analysed-only}
use Rattle.framehop_analysis.specs.Aarch64.Prologue.{IsPrologueRule, ReachesFrom, UndoesPrologue}
use Rattle.framehop_analysis.specs.Aarch64.Epilogue.{IsEpilogueRule, EndsFrom, DoesEpilogue}
use Rattle.framehop_analysis.specs.Laws.Answer.{means-first}
use Rattle.framehop_analysis.specs.Laws.Aarch64.Undoes.{undoes}
use Rattle.framehop_analysis.specs.Laws.Aarch64.Reaches.{reaches-from, ends-from}
use Rattle.framehop_analysis.specs.Laws.Aarch64.Does.{does}

pub analysed-means : (text : List ℕ) (pc : ℕ) (rule : UnwindRuleAarch64) → analysed text pc ≡ Some rule
    → (IsPrologueRule (take pc text) (drop pc text) rule × ReachesFrom (take pc text)
    × UndoesPrologue (take pc text) rule)
    ⊎ (IsEpilogueRule text pc rule × EndsFrom text pc × DoesEpilogue text pc rule)
analysed-means text pc =
    means-first _ _ (analysed text pc) (analysed-only text pc)
    (λ rule p. (p, reaches-from (take pc text) (drop pc text) rule p, undoes (take pc text) (drop pc text) rule p))
    (λ rule e. (e, ends-from text pc rule e, does text pc rule e))
