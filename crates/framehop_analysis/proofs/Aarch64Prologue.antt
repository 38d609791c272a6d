-- The clause of a prologue on aarch64.
use Rattle.std.proofs.Common.{◌≡◌, Bool, true, false, ◌↔◌, List, ℕ, Option, Some, subst}
use Rattle.framehop_core.specs.declared.aarch64.unwind_rule.UnwindRuleAarch64.{UnwindRuleAarch64}
use Rattle.framehop_analysis.specs.Aarch64.Prologue.{IsPrologueRule}

pub not-both : (b : Bool) → false ≡ b → b ≡ true → ⊥
not-both b is_false is_true = cc

-- the clause over the slices that the code is split into
pub at-split : (before after front back : List ℕ) (found : Option UnwindRuleAarch64) → front ≡ before → back ≡ after
    → ((rule : UnwindRuleAarch64) → (found ≡ Some rule) ↔ IsPrologueRule front back rule)
    → (rule : UnwindRuleAarch64) → (found ≡ Some rule) ↔ IsPrologueRule before after rule
at-split before after front back found front_is back_is exact rule =
    let P : List ℕ → Type 0 = λ b. (found ≡ Some rule) ↔ IsPrologueRule b back rule in
    let Q : List ℕ → Type 0 = λ a. (found ≡ Some rule) ↔ IsPrologueRule before a rule in
    subst Q back_is (subst P front_is (exact rule))
