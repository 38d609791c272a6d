-- The premises of `quiet` hold of a function: one that keeps the stack pointer and returns.
use Rattle.std.proofs.Common.{◌≡◌, ◌⊎◌, ℤ, pos, false, List, [], ◌∷◌, ◌++◌, Some, None, refl, sym, ap, subst, ◌∙◌, inl, inr}
use Rattle.std.proofs.lemmas.Bool.{and_parts}
use Rattle.framehop_code.specs.Effect.{plain}
use Rattle.framehop_code.specs.declared.effect.Base.{Base}
use Rattle.framehop_code.specs.declared.effect.Base.TheVariants.{Sp, Fp}
use Rattle.framehop_code.specs.declared.effect.Flow.TheVariants.{Return}
use Rattle.framehop_check.specs.declared.claim.Claim.{Claim}
use Rattle.framehop_check.specs.declared.claim.Claim.TheVariants.{Above}
use Rattle.framehop_check.specs.declared.check.Item.{Item}
use Rattle.framehop_check.specs.Contradiction.{pass_through}
use Rattle.framehop_check.specs.Known.{known_of}
use Rattle.framehop_check.specs.Tracked.{arriving, is_padding}
use Rattle.framehop_check.specs.Check.{first_pass, pass_after, alarms_at, alarms_from}
use Rattle.framehop_check.specs.Quiet.{Place, Falls, JumpsTo, IsPassed, known_before, BelievesNothing, AreRight}
use Rattle.framehop_check.proofs.QuietLemmas.{is-quiet}

pub one : Item
one = record { address = 0; effect = plain 1; claim = Above Sp (pos 8); splits = false; target = None }

pub two : Item
two = record { address = 1; effect = record (plain 1) { flow = Return }; claim = Above Sp (pos 8); splits = false; target = None }

pub function : List Item
function = one ∷ two ∷ []

nothing-left : (before after : List Item) (here : Item) → ◌≡◌ {A = List Item} [] (before ++ here ∷ after) → ⊥
nothing-left [] after here is = cc
nothing-left (x ∷ before) after here is = cc

which : (a b : Item) (before after : List Item) (here : Item) → ◌≡◌ {A = List Item} (a ∷ b ∷ []) (before ++ here ∷ after)
    → ((before ≡ []) × (here ≡ a)) ⊎ ((before ≡ a ∷ []) × (here ≡ b))
which a b [] after here is = inl (refl, let e : here ≡ a = cc in e)
which a b (x ∷ []) after here is =
    let e : x ≡ a = cc in
    let f : here ≡ b = cc in
    inr (ap (λ (y : Item). y ∷ []) e, f)
which a b (x ∷ y ∷ before) after here is =
    let rest : ◌≡◌ {A = List Item} [] (before ++ here ∷ after) = cc in
    absurd (nothing-left before after here rest)

no-padding : (p : Place function) → is_padding p.here.effect.flow ≡ false
unfolding function one two
no-padding p =
    elim (which one two p.before p.after p.here p.list) [
      | inl first ↦ rw (first.1) refl
      | inr second ↦ rw (second.1) refl
    ]

no-target : (p : Place function) → p.here.target ≡ None
unfolding function one two
no-target p =
    elim (which one two p.before p.after p.here p.list) [
      | inl first ↦ rw (first.1) refl
      | inr second ↦ rw (second.1) refl
    ]

not-passed : (p : Place function) → IsPassed (first_pass 0) p → ⊥
not-passed p passed =
    let parts = and_parts _ (is_padding p.here.effect.flow) passed in
    let e = sym (no-padding p) ∙ parts.1 in cc

no-jump : (p q : Place function) → JumpsTo p q → ⊥
no-jump p q jumps = let e = sym (no-target p) ∙ jumps.target in cc

after-one : (base : Base) (row : ℤ) → Above Sp (pos 8) ≡ Above base row
    → (code : ℤ) × (known_of (arriving (pass_after (first_pass 0) one).tracked (Above Sp (pos 8))) base ≡ Some code)
unfolding one pass_after
after-one Sp row is = (pos 8, refl)
after-one Fp row is = cc

falls-known : (p q : Place function) (base : Base) (row : ℤ) → Falls p q → q.here.claim ≡ Above base row
    → (code : ℤ) × (known_of (known_before (first_pass 0) q) base ≡ Some code)
unfolding function two
falls-known p q base row falls is =
    elim (which one two q.before q.after q.here q.list) [
      | inl first ↦ absurd (nothing-left p.before [] p.here (sym first.0 ∙ falls.next))
      | inr second ↦
          (let claim : q.here.claim ≡ Above Sp (pos 8) = ap (λ (i : Item). i.claim) second.1 in
          let known = after-one base row (sym claim ∙ is) in (
            known.0,
            subst (λ (c : Claim). known_of (arriving (pass_through (first_pass 0) q.before).tracked c) base ≡ Some known.0) (sym claim)
                (subst (λ (xs : List Item). known_of (arriving (pass_through (first_pass 0) xs).tracked (Above Sp (pos 8))) base ≡ Some known.0) (sym second.0) known.1),
          ))
    ]

believes-nothing : BelievesNothing (first_pass 0) function
believes-nothing = record {
  begins = λ p first passed. not-passed p passed;
  falls = λ p q base row looked falls is. falls-known p q base row falls is;
  lands = λ p q looked jumps passed. no-jump p q jumps;
  jumps = λ p q base offset looked jumps has. absurd (no-jump p q jumps);
}

nothing-told : alarms_from (pos 8) (first_pass 0) function ≡ []
unfolding function one two pass_after alarms_at
nothing-told = refl

pub example-is-right : AreRight (pos 8) function
example-is-right = is-quiet (pos 8) 0 function nothing-told believes-nothing
