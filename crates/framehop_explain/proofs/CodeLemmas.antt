-- The rule by the code of a function is a prologue's or, where no prologue is recognised, an epilogue's.
use Rattle.std.proofs.Common.{◌≡◌, inl, inr, ◌↔◌, ℕ, Bool, true, false, List, Option, Some, None, refl, sym, ap, ◌∙◌}
use Rattle.std.specs.Prelude.{if◌then◌else◌}
use Rattle.std.specs.Option.{is_some}
use Rattle.framehop_analysis.specs.Answer.{IsOnly, FirstOf}
use Rattle.framehop_macho.specs.declared.unwind_info.info.Function.{Function}
use Rattle.framehop_explain.specs.CompactSource.{CodeReader, IsPlaceByCode}
use Rattle.framehop_explain.specs.declared.source.CompactSource.TheVariants.{Prologue, Epilogue}

-- the only rule is one that meets either fact
only-is : {R : Type 0} (P : R → Type 0) (found : Option R) (rule : R) → IsOnly P found → P rule → found ≡ Some rule
only-is P None rule none holds = absurd (none rule holds)
only-is P (Some x) rule only holds = ap Some (sym (only.1 rule holds))

-- what a test of an option says
pub some-of : {R : Type 0} (found : Option R) → is_some found ≡ true → (rule : R) × (found ≡ Some rule)
some-of (Some rule) is = (rule, refl)
some-of None is = cc

pub none-of : {R : Type 0} (found : Option R) → is_some found ≡ false → found ≡ None
none-of None is = refl
none-of (Some rule) is = cc

-- whether the code is looked at
looked-at : {R : Type 0} (looks : Bool) (found by_code : Option R) → looks ≡ true → by_code ≡ (if looks then found else None) → by_code ≡ found
looked-at looks found by_code looks_at is = is ∙ ap (λ l. if l then found else None) looks_at

module _ {R : Type 0} (reader : CodeReader R) (function : Function) (code : List ℕ) (offset : ℕ) where
  -- a rule of a prologue
  pub prologue-place : (looks : Bool) (found by_code : Option R) (answer : Option R) → looks ≡ true → by_code ≡ (if looks then found else None) → IsOnly (FirstOf (reader.prologue code offset) (reader.epilogue code offset)) found → ((rule : R) → (answer ≡ Some rule) ↔ reader.prologue code offset rule) → (rule : R) → answer ≡ Some rule → IsPlaceByCode reader function code offset by_code (Prologue function)
  prologue-place looks found by_code answer looks_at is only exact rule there =
      let holds = (exact rule).0 there in
      let by = looked-at looks found by_code looks_at is ∙ only-is _ found rule only (inl holds) in
      rw by (inl (refl, holds))

  -- a rule of an epilogue, where none of a prologue is recognised
  pub epilogue-place : (looks : Bool) (found by_code : Option R) (before answer : Option R) → looks ≡ true → by_code ≡ (if looks then found else None) → IsOnly (FirstOf (reader.prologue code offset) (reader.epilogue code offset)) found → ((rule : R) → (before ≡ Some rule) ↔ reader.prologue code offset rule) → before ≡ None → ((rule : R) → (answer ≡ Some rule) ↔ reader.epilogue code offset rule) → (rule : R) → answer ≡ Some rule → IsPlaceByCode reader function code offset by_code (Epilogue function)
  epilogue-place looks found by_code before answer looks_at is only first none exact rule there =
      let holds = (exact rule).0 there in
      let never : (x : R) → reader.prologue code offset x → ⊥ = λ x is_prologue. (let e : None ≡ Some x = sym none ∙ (first x).1 is_prologue in cc) in
      let by = looked-at looks found by_code looks_at is ∙ only-is _ found rule only (inr (never, holds)) in
      rw by (inr (refl, never, holds))
