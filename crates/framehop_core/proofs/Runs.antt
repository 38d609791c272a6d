-- Runs of rules: what one more rule adds.
use Rattle.std.proofs.Common.{◌≡◌, ℕ, suc, ◌+◌, ◌-◌, ◌<◌, ◌≤◌, Bool, true, false, nat_eq, List, [], ◌∷◌, drop, get_or, length, Some, Ok, refl, sym, ap, ◌∙◌, add_assoc, add-zero, arith}
use Rattle.std.proofs.lemmas.Bool.Decides.{nat_tests}
use Rattle.std.proofs.lemmas.List.{drop_more}
use Rattle.framehop_core.specs.Memory.{Memory}
use Rattle.framehop_core.specs.Outcome.{Outcome, answered, root, refused, answer_of, registers_after}
use Rattle.framehop_core.specs.Runs.{Run, later, run_on, run_of, after_first, StepsBy, Raises}

-- ---- what an answer says of the outcome

pub answered-answer_of : {R : Type 0} (old : R) (o : Outcome R) (address : ℕ) → answer_of o ≡ Ok (Some address) → o ≡ answered address (registers_after old o)
answered-answer_of old (answered a new) address e = ap (λ b. answered b new) cc
answered-answer_of old root address e = cc
answered-answer_of old (refused error) address e = cc

-- ---- the run

later-later : {R : Type 0} (m n : ℕ) (run : Run R) → later m (later n run) ≡ later (m + n) run
later-later m n run = ap (λ k. record { count = k; end = run.end; registers = run.registers }) (sym (add_assoc m n run.count))

module _ {U R : Type 0} (outcome : U → Bool → R → Memory → Outcome R) (memory : Memory) (rules : List U) (n : ℕ) (first : Bool) (r : R) (all : Run R) (so_far : later n (run_of outcome first (drop n rules) r memory) ≡ all) where
  -- a rule that answers: the run goes on after it
  pub run_of-more : (rule : U) (address : ℕ) (new : R) → n < length rules → rule ≡ get_or rules n rule → outcome rule first r memory ≡ answered address new → later (n + 1) (run_of outcome false (drop (n + 1) rules) new memory) ≡ all
  run_of-more rule address new within is o =
      let split : drop n rules ≡ rule ∷ drop (n + 1) rules = drop_more rules n rule within ∙ ap (λ u. u ∷ drop (n + 1) rules) (sym is) in
      sym (later-later n 1 (run_of outcome false (drop (n + 1) rules) new memory)) ∙ ap (later n) (sym (ap (λ us. run_of outcome first us r memory) split ∙ ap (λ p. run_on r p (λ s. run_of outcome false (drop (n + 1) rules) s memory)) o)) ∙ so_far

later_first : (k : ℕ) → nat_eq (k + 1) 0 ≡ false
later_first k = grind (arith, nat_tests)

module _ {U R : Type 0} (advances : U → Bool → R → R → Type 0) (rules : List U) (k : ℕ) (start old : R) (so_far : (n : ℕ) (new : R) → StepsBy advances (nat_eq k 0) (drop k rules) n old new → StepsBy advances true rules (k + n) start new) where
  -- one more step
  pub StepsBy-more : (rule : U) (n : ℕ) (next new : R) → k < length rules → rule ≡ get_or rules k rule → advances rule (nat_eq k 0) old next → StepsBy advances (nat_eq (k + 1) 0) (drop (k + 1) rules) n next new → StepsBy advances true rules (k + 1 + n) start new
  StepsBy-more rule n next new within is step steps =
      let split : drop k rules ≡ rule ∷ drop (k + 1) rules = drop_more rules k rule within ∙ ap (λ u. u ∷ drop (k + 1) rules) (sym is) in
      let rest : StepsBy advances false (drop (k + 1) rules) n next new = rw later_first at steps in
      let count : k + suc n ≡ k + 1 + n = omega arith in
      let all : StepsBy advances (nat_eq k 0) (drop k rules) (suc n) old new = rw split (next, step, rest) in
      rw count at (so_far (suc n) new all)

  -- no more steps
  pub StepsBy-end : (new : R) → new ≡ old → StepsBy advances true rules k start new
  StepsBy-end new same = rw add-zero at (so_far 0 new (sym same))

module _ {U R : Type 0} (outcome : U → Bool → R → Memory → Outcome R) (memory : Memory) (rules : List U) (n : ℕ) (r new : R) (all : Run R) where
  -- the same over what a call of a rule has done
  pub run_of-answered : (rule : U) (address : ℕ) → later n (run_of outcome (nat_eq n 0) (drop n rules) r memory) ≡ all → n < length rules → rule ≡ get_or rules n rule → Ok (Some address) ≡ answer_of (outcome rule (nat_eq n 0) r memory) → new ≡ registers_after r (outcome rule (nat_eq n 0) r memory) → later (n + 1) (run_of outcome (nat_eq (n + 1) 0) (drop (n + 1) rules) new memory) ≡ all
  run_of-answered rule address so_far within is answer registers =
      let o = answered-answer_of r (outcome rule (nat_eq n 0) r memory) address (sym answer) ∙ ap (answered address) (sym registers) in
      rw later_first (run_of-more outcome memory rules n (nat_eq n 0) r all so_far rule address new within is o)

-- ---- the bound: each answered step after the first raises the stack pointer
module _ {U R : Type 0} (outcome : U → Bool → R → Memory → Outcome R) (sp : R → ℕ) (IsAfterStep : Memory → R → Type 0) (raises : Raises outcome sp IsAfterStep) where
  rise_on : (rule : U) (r : R) (memory : Memory) (next : R → Run R) → IsAfterStep memory r → ((new : R) → IsAfterStep memory new → (next new).count + sp new ≤ sp (next new).registers) → (o : Outcome R) → outcome rule false r memory ≡ o → (run_on r o next).count + sp r ≤ sp (run_on r o next).registers
  rise_on rule r memory next behind more (answered address new) e =
      omega (arith, more new (raises.leads rule false r new memory address e), raises.rises rule r new memory address behind e)
  rise_on rule r memory next behind more root e = omega arith
  rise_on rule r memory next behind more (refused error) e = omega arith

  pub run_of-rise : (rules : List U) (r : R) (memory : Memory) → IsAfterStep memory r → (run_of outcome false rules r memory).count + sp r ≤ sp (run_of outcome false rules r memory).registers
  run_of-rise [] r memory behind = omega arith
  run_of-rise (rule ∷ rules) r memory behind =
      rise_on rule r memory (λ new. run_of outcome false rules new memory) behind (λ new b. run_of-rise rules new memory b) (outcome rule false r memory) refl

  bound_on : (rule : U) (r : R) (memory : Memory) (next : R → Run R) → ((new : R) → IsAfterStep memory new → (next new).count + sp new ≤ sp (next new).registers) → (o : Outcome R) → outcome rule true r memory ≡ o → (run_on r o next).count - 1 ≤ sp (run_on r o next).registers - sp (registers_after r o)
  bound_on rule r memory next more (answered address new) e =
      omega (arith, more new (raises.leads rule true r new memory address e))
  bound_on rule r memory next more root e = omega arith
  bound_on rule r memory next more (refused error) e = omega arith

  pub run_of-bound : (rules : List U) (r : R) (memory : Memory) → (run_of outcome true rules r memory).count - 1 ≤ sp (run_of outcome true rules r memory).registers - sp (after_first outcome rules r memory)
  run_of-bound [] r memory = omega arith
  run_of-bound (rule ∷ rules) r memory =
      bound_on rule r memory (λ new. run_of outcome false rules new memory) (λ new b. run_of-rise rules new memory b) (outcome rule true r memory) refl
