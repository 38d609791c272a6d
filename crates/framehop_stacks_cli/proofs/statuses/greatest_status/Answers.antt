use Rattle.std.proofs.Common.{◌≡◌, ℕ, List, [], ◌∷◌, length, max, ap, ◌∙◌, arith, of_calls, refl, sym, subst}
use Rattle.std.proofs.lemmas.Bool.Decides.{nat_tests}
use Rattle.std.proofs.lemmas.Grind.{common_steps}
use Rattle.std.specs.Fn.{Mut, Called}
use Rattle.std.specs.Borrow.{Bor}
use Rattle.std.specs.Ordering.{nat_cmp, ord_max}
use Rattle.std.specs.Prelude.{Result, Ok}
use Rattle.framehop_stacks_cli.specs.Statuses.{IsGreatestOf}
use Rattle.framehop_stacks_cli.proofs.statuses.greatest_status.Goals as goal

max_of : (a b c : ℕ) → max (ord_max nat_cmp a b) c ≡ max a (max b c)
max_of a b c = grind (arith, nat_tests, common_steps)

max_zero : (a : ℕ) → max a 0 ≡ a
max_zero a = omega arith

-- a call at an item comes before those at others
before : {F T E : Type 0} (calls : Mut F (Bor T × Unit {0}) (Result ℕ E)) (call next : F) (item : Bor T) (items : List T) (status others : ℕ)
    → Called calls call (item, tt) (Ok status) next → IsGreatestOf calls next items others
    → IsGreatestOf calls call (item.now ∷ items) (max status others)
before calls call next item items status others called given =
    (status, next, others, record { shown = item; shows = refl; called = called }, given, refl)

no_items : {T : Type 0} (items : List T) → length items ≡ 0 → items ≡ []
no_items [] h = refl
no_items (item ∷ items) h = absurd (omega arith)

joined : {F T E : Type 0} (calls : Mut F (Bor T × Unit {0}) (Result ℕ E)) (call : F) (items : List T) (a b c d : ℕ)
    → a ≡ ord_max nat_cmp b c → IsGreatestOf calls call items (max b (max c d)) → IsGreatestOf calls call items (max a d)
joined calls call items a b c d is h = subst (IsGreatestOf calls call items) (sym (ap (λ n. max n d) is ∙ max_of b c d)) h

pub loop-item-preserved : goal.loop-item-preserved
loop-item-preserved g c = (
  search of_calls,
  λ others given. joined g.F.FnMut c.args.status_of c.args.items.now c.max-greatest.result c.loop-item.greatest c.in_ok-status_of.field-0 others
      c.max-greatest.ensures
      (c.loop-item.invariant.1 (max c.in_ok-status_of.field-0 others)
      (rw c.in-Some.ensures.cases.0 (before g.F.FnMut c.loop-item.status_of c.status_of.new.self c.in-Some.item c.in-Some.others.now
      c.in_ok-status_of.field-0 others c.in_ok-status_of.ensures given))),
)

pub returns : goal.returns
returns g c =
    subst (IsGreatestOf g.F.FnMut c.args.status_of c.args.items.now) (max_zero c.loop-item.greatest)
    (c.loop-item.invariant.1 0 (rw (no_items c.loop-item.rest.now c.in_default.ensures.cases) refl))
