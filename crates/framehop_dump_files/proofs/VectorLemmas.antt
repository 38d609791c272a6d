-- The first number that passes, of those from one on.
use Rattle.std.proofs.Common.{◌≡◌, ℕ, suc, ◌+◌, ◌-◌, ◌<◌, Bool, true, false, Some, refl, ap, ◌∙◌, arith}
use Rattle.std.specs.List.{find, range_with_len}

module _ (p : ℕ → Bool) (n i : ℕ) (within : i < n) where
  from-here : range_with_len i (n - i) ≡ range_with_len i (suc (n - (i + 1)))
  from-here =
      let more : n - i ≡ suc (n - (i + 1)) = omega (arith, within) in
      ap (range_with_len i) more

  pub find-later : p i ≡ false → find p (range_with_len i (n - i)) ≡ find p (range_with_len (i + 1) (n - (i + 1)))
  find-later fails = ap (find p) from-here ∙ rw fails refl

  pub find-here : p i ≡ true → find p (range_with_len i (n - i)) ≡ Some i
  find-here passes = ap (find p) from-here ∙ rw passes refl
