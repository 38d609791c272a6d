-- Counts that are added one after another are the counts of all.
use Rattle.std.proofs.Common.{◌≡◌, ℕ, zero, suc, ◌+◌, Bool, List, [], ◌∷◌, refl, sym, ap, ◌∙◌, arith}
use Rattle.framehop_check.specs.declared.check.Item.{Item}
use Rattle.framehop_check.specs.declared.check.Pass.{Pass}
use Rattle.framehop_check.specs.declared.report.Counts.{Counts}
use Rattle.framehop_check.specs.declared.tracked.Tracked.{Tracked}
use Rattle.framehop_check.specs.Check.{pass_after}
use Rattle.framehop_check.specs.Counts.{plus, is_instruction, is_checked, is_believed, is_jump, is_changed, number, counted}

pub plus-plus : (count some more : ℕ) → plus (plus count some) more ≡ plus count (some + more)
plus-plus count zero more = let e : 0 + more ≡ more = omega arith in ap (plus count) (sym e)
plus-plus count (suc some) zero = let e : suc some + 0 ≡ suc some = omega arith in ap (plus count) (sym e)
plus-plus count (suc some) (suc more) = grind arith

-- the numbers of an instruction, and of it and others
number-step : (is : Tracked → Item → Bool) (pass : Pass) (i : Item) (items : List Item) (count : ℕ)
    → plus (plus count (number is pass (i ∷ []))) (number is (pass_after pass i) items) ≡ plus count (number is pass (i ∷ items))
number-step is pass i items count =
    plus-plus count (number is pass (i ∷ [])) (number is (pass_after pass i) items)
    ∙ (let e : number is pass (i ∷ []) + number is (pass_after pass i) items ≡ number is pass (i ∷ items) = omega arith in ap (plus count) e)

pub counted-step : (old : Counts) (pass : Pass) (i : Item) (items : List Item)
    → counted (counted old pass (i ∷ [])) (pass_after pass i) items ≡ counted old pass (i ∷ items)
counted-step old pass i items =
    rw (
      number-step is_instruction pass i items old.instructions,
      number-step is_checked pass i items old.checked,
      number-step is_believed pass i items old.believed,
      number-step is_jump pass i items old.jumps,
      number-step is_changed pass i items old.calls,
    ) refl
