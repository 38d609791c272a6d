-- Sums of addresses that wrap at 64 bits.
use Rattle.std.proofs.Common.{◌≡◌, ℕ, ◌+◌, ◌/◌, ◌^◌, ◌<◌, ℤ, pos, negsuc, ◌+ℤ◌, ◌-ℤ◌, ◌*ℤ◌, arith}
use Rattle.std.proofs.lemmas.Int.{ints}
use Rattle.framehop_core.specs.AddSigned.{modulo, sum_with}
use Rattle.framehop_analysis.specs.Aarch64.Machine.{offset_by}

-- the number is the sum after some turns round the 64 bits
record IsWrapped (z : ℤ) (w : ℕ) : Type 0 where
  turns : ℤ
  is : pos w ≡ z +ℤ pos (2 ^ 64) *ℤ turns
  fits : w < 2 ^ 64

modulo-is : (z : ℤ) → IsWrapped z (modulo 64 z)
modulo-is (pos a) = record { turns = pos 0 -ℤ pos (a / 2 ^ 64); is = omega (arith, ints); fits = omega arith }
modulo-is (negsuc a) = record { turns = pos (a / 2 ^ 64 + 1); is = omega (arith, ints); fits = omega arith }

wrapped-same : (z : ℤ) (v w : ℕ) → IsWrapped z v → IsWrapped z w → v ≡ w
wrapped-same z v w a b =
    let first = a.is in let second = b.is in let low = a.fits in let high = b.fits in omega (arith, ints)

-- ---- the lemmas

-- an address that does not wrap
pub offset_by-fits : (address n : ℕ) (bytes : ℤ) → pos address +ℤ bytes ≡ pos n → n < 2 ^ 64
    → offset_by address bytes ≡ n
offset_by-fits address n bytes e fits =
    wrapped-same (sum_with address bytes) (offset_by address bytes) n (modulo-is (sum_with address bytes))
    (record { turns = pos 0; is = omega (arith, ints, e); fits = fits })

pub offset_by-zero : (address : ℕ) → address < 2 ^ 64 → offset_by address (pos 0) ≡ address
offset_by-zero address fits = offset_by-fits address address (pos 0) (omega (arith, ints)) fits

pub offset_by-offset_by : (address : ℕ) (x y : ℤ) → offset_by (offset_by address x) y ≡ offset_by address (x +ℤ y)
offset_by-offset_by address x y =
    let middle = offset_by address x in
    let a = modulo-is (sum_with address x) in
    let b = modulo-is (sum_with middle y) in
    wrapped-same (sum_with address (x +ℤ y)) (offset_by middle y) (offset_by address (x +ℤ y))
    (record {
      turns = a.turns +ℤ b.turns;
      is = (let first = a.is in let second = b.is in omega (arith, ints));
      fits = b.fits;
    })
    (modulo-is (sum_with address (x +ℤ y)))

pub offset_by-below : (address : ℕ) (bytes : ℤ) → offset_by address bytes < 2 ^ 64
offset_by-below address bytes = (modulo-is (sum_with address bytes)).fits
