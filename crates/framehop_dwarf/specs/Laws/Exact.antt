-- What an exact number of units says.
use Rattle.std.proofs.Common.{◌≡◌, ℕ, ◌^◌, true, Some, ℤ, pos, negsuc, ◌*ℤ◌, ap, subst, arith, inl, inr, ltb}
use Rattle.std.specs.Prelude.{int_div}
use Rattle.std.specs.Ordering.{int_eq}
use Rattle.std.proofs.lemmas.Bool.{cases_Bool}
use Rattle.std.proofs.lemmas.Option.{same_Some}
use Rattle.std.proofs.lemmas.Bool.Decides.{Decides-int_eq}
use Rattle.framehop_dwarf.specs.Units.{units_of, signed_units_of, fits_u16, fits_i16, is_exact}

pub int_same : (a b : ℤ) → int_eq a b ≡ true → a ≡ b
int_same a b e = grind (arith, Decides-int_eq)

fits-u16 : (z : ℤ) (n : ℕ) → fits_u16 z ≡ Some n → z ≡ pos n
fits-u16 (pos m) n is =
    elim (cases_Bool (ltb m (2 ^ 16))) [
      | inl small ↦ (let e = rw small at is in ap pos cc)
      | inr large ↦ (let e = rw large at is in cc)
    ]
fits-u16 (negsuc m) n is = cc

fits-i16 : (z w : ℤ) → fits_i16 z ≡ Some w → z ≡ w
fits-i16 (pos m) w is =
    elim (cases_Bool (ltb m (2 ^ 15))) [
      | inl small ↦ same_Some (pos m) w (rw small at is)
      | inr large ↦ (let e = rw large at is in cc)
    ]
fits-i16 (negsuc m) w is =
    elim (cases_Bool (ltb m (2 ^ 15))) [
      | inl small ↦ same_Some (negsuc m) w (rw small at is)
      | inr large ↦ (let e = rw large at is in cc)
    ]

pub units-exact : (size : ℕ) (bytes : ℤ) (n : ℕ) → units_of size bytes ≡ Some n → pos n *ℤ pos size ≡ bytes
unfolding units_of
units-exact size bytes n is =
    let units = int_div bytes (pos size) in
    elim (cases_Bool (is_exact units size bytes)) [
      | inl exact ↦
          let same : units ≡ pos n = fits-u16 units n (rw exact at is) in
          subst (λ u. u *ℤ pos size ≡ bytes) same (int_same (units *ℤ pos size) bytes exact)
      | inr inexact ↦ (let e = rw inexact at is in cc)
    ]

pub signed_units-exact : (size : ℕ) (bytes z : ℤ) → signed_units_of size bytes ≡ Some z → z *ℤ pos size ≡ bytes
unfolding signed_units_of
signed_units-exact size bytes z is =
    let units = int_div bytes (pos size) in
    elim (cases_Bool (is_exact units size bytes)) [
      | inl exact ↦
          let same : units ≡ z = fits-i16 units z (rw exact at is) in
          subst (λ u. u *ℤ pos size ≡ bytes) same (int_same (units *ℤ pos size) bytes exact)
      | inr inexact ↦ (let e = rw inexact at is in cc)
    ]
