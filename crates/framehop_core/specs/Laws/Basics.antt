-- Facts that every crate above needs: what is wrapped alike is alike, and what a mapped value comes from. What std has
-- of this kind (`same_Some`, `and_parts`, `or_cases`, `eqb-true`) is cited from there.
use Rattle.std.proofs.Common.{◌≡◌, ℕ, pos, Option, Some, None, Result, Ok, option_map, refl}
use Rattle.std.proofs.lemmas.Option.{none-some, same_Some}

pub ok-same : {A E : Type 0} (x y : A) → ◌≡◌ {A = Result A E} (Ok x) (Ok y) → x ≡ y
ok-same x y e = cc

pub pos-same : (m n : ℕ) → pos m ≡ pos n → m ≡ n
pos-same m n e = cc

pub option_map-some : {A B : Type 0} (f : A → B) (o : Option A) (y : B) → option_map f o ≡ Some y
    → (x : A) × (o ≡ Some x) × (f x ≡ y)
option_map-some f (Some x) y e = (x, refl, same_Some (f x) y e)
option_map-some f None y e = absurd (none-some y e)
