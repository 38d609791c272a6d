-- What an iterator gives that shows the list of what is left.
use Rattle.std.proofs.Common.{◌≡◌, List, [], ◌∷◌, Option, Some, None, refl, sym, ◌∙◌}
use Rattle.std.specs.Result.{result_ok}
use Rattle.std.specs.Iterator.{AlwaysYields, YieldsFirst}
use Rattle.std.proofs.lemmas.Iterator.{YieldsList}
use Rattle.framehop_core.specs.Memory.{reply}
use Prim.Native.Nat.{ℕ}

module _ {S A : Type 0} (rest : S → List A) where
  yields : (xs : List A) (s : S) → rest s ≡ xs → AlwaysYields (YieldsFirst rest) (λ x. x) s xs
  yields [] s e = λ x j step. cc
  yields (y ∷ ys) s e = (
    λ j step. cc,
    λ x j step.
        let same : x ∷ rest j ≡ y ∷ ys = sym step ∙ e in
        (cc, yields ys j cc),
  )

  -- it gives that list
  pub YieldsList-from_first : (s : S) (xs : List A) → rest s ≡ xs → YieldsList (YieldsFirst rest) (λ x. x) s xs
  YieldsList-from_first s xs e = record { runs = yields xs s e }

-- a reply as an option is what the memory has
pub result_ok-reply : (o : Option ℕ) → result_ok (reply o) ≡ o
result_ok-reply None = refl
result_ok-reply (Some word) = refl
