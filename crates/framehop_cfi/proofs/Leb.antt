-- The groups of a LEB128 number, byte by byte.
use Rattle.std.proofs.Common.{◌≡◌, ℕ, zero, suc, ◌+◌, ◌*◌, ◌^◌, ◌%◌, ◌<◌, ◌≤◌, List, [], ◌∷◌, length, drop, get_or, Ok, Err, refl, ap, ◌∙◌, arith, get_or-drop, add-one, add-zero, IsTrue, ℤ}
use Rattle.std.proofs.lemmas.Bool.Decides.{nat_tests}
use Rattle.std.proofs.lemmas.List.{get_or_past}
use Rattle.std.proofs.lemmas.Nat.{and_mask, shl_whole, pow-add}
use Rattle.std.proofs.Math.Nat.{mul-le-mul_right}
use Rattle.std.specs.Prelude.{bit_and}
use Rattle.framehop_cfi.specs.Leb128.{continued, sum_of_groups, groups_at, uleb_at, sleb_at, with_sign, fits_i64}
use Rattle.framehop_cfi.specs.declared.read_error.ReadError.TheVariants.{Eof, BadLeb}

-- so many bytes say that more follow, and the next one doesn't
pub continued-is : (xs : List ℕ) (c : ℕ) → ((k : ℕ) → k < c → 128 ≤ get_or xs k 0) → get_or xs c 0 < 128 → continued xs ≡ c
continued-is [] zero before here = refl
continued-is [] (suc c) before here = let h : 128 ≤ 0 = before 0 (omega arith) in absurd (omega arith)
continued-is (x ∷ xs) zero before here = grind (arith, nat_tests)
continued-is (x ∷ xs) (suc c) before here =
    let first : 128 ≤ x = before 0 (omega arith) in
    let rest = continued-is xs c (λ k h. before (suc k) (omega arith)) here in
    grind (arith, nat_tests)

pub continued-many : (xs : List ℕ) (c : ℕ) → ((k : ℕ) → k < c → 128 ≤ get_or xs k 0) → c ≤ continued xs
continued-many xs zero before = omega arith
continued-many [] (suc c) before = let h : 128 ≤ 0 = before 0 (omega arith) in absurd (omega arith)
continued-many (x ∷ xs) (suc c) before =
    let first : 128 ≤ x = before 0 (omega arith) in
    let rest = continued-many xs c (λ k h. before (suc k) (omega arith)) in
    grind (arith, nat_tests)

module _ (bytes : List ℕ) (at count : ℕ) (before : (k : ℕ) → k < count → 128 ≤ get_or bytes (at + k) 0) where
  continues : (k : ℕ) → k < count → 128 ≤ get_or (drop at bytes) k 0
  continues k h = rw get_or-drop (before k h)

  pub groups-end : count < 10 → length bytes ≤ at + count → Err Eof ≡ groups_at bytes at
  unfolding groups_at
  groups-end few ends =
      let past = get_or_past bytes (at + count) 0 ends in
      let here : get_or (drop at bytes) count 0 < 128 = rw get_or-drop (omega arith) in
      rw (continued-is (drop at bytes) count continues here) (grind (arith, nat_tests))

  pub groups-last : count < 10 → at + count < length bytes → get_or bytes (at + count) 0 < 128 → (sum bits next : ℕ)
      → sum ≡ sum_of_groups bytes at (count + 1) → bits ≡ 7 * (count + 1) → next ≡ at + count + 1
      → Ok ((sum, bits), next) ≡ groups_at bytes at
  unfolding groups_at
  groups-last few within last sum bits next s b n =
      let here : get_or (drop at bytes) count 0 < 128 = rw get_or-drop last in
      let s' = rw add-one at s in
      rw (continued-is (drop at bytes) count continues here) (grind (arith, nat_tests))

  pub groups-long : 10 ≤ count → Err BadLeb ≡ groups_at bytes at
  unfolding groups_at
  groups-long long =
      let many = continued-many (drop at bytes) count continues in
      grind (arith, nat_tests)

-- seven bits more
pub shifted : (byte count : ℕ) → count < 10 → bit_and byte 127 * 2 ^ (7 * count) % 2 ^ 128 ≡ byte % 128 * 2 ^ (7 * count)
shifted byte count few =
    let low = and_mask byte 7 in
    shl_whole (bit_and byte 127) 7 (7 * count) 128 (omega arith) (omega arith) ∙ ap (λ x. x * 2 ^ (7 * count)) low

pub below-more : (sum byte count : ℕ) → sum < 2 ^ (7 * count) → sum + byte % 128 * 2 ^ (7 * count) < 2 ^ (7 * (count + 1))
below-more sum byte count below =
    let split = pow-add 2 (7 * count) 7 in
    let same : 7 * (count + 1) ≡ 7 * count + 7 = omega arith in
    let most = mul-le-mul_right (2 ^ (7 * count)) (let h : byte % 128 ≤ 127 = omega arith in h) in
    rw same (omega arith)

module _ (bytes : List ℕ) (at count next sum low : ℕ) (few : count < 10) (place : next ≡ at + count)
    (read : low ≡ bit_and (get_or bytes next 0) 127) (so_far : sum ≡ sum_of_groups bytes at count) where
  pub sum-more : sum + low * 2 ^ (7 * count) % 2 ^ 128 ≡ sum_of_groups bytes at (count + 1)
  sum-more =
      rw (add-one, read, place, so_far, shifted (get_or bytes (at + count) 0) count few) refl

  pub below-after : sum < 2 ^ (7 * count) → sum + low * 2 ^ (7 * count) % 2 ^ 128 < 2 ^ (7 * (count + 1))
  below-after below =
      rw (read, shifted (get_or bytes next 0) count few) (below-more sum (get_or bytes next 0) count below)

-- a number of one byte
module _ (bytes : List ℕ) (at : ℕ) (within : at < length bytes) (last : get_or bytes at 0 < 128) where
  one-group : (n : ℕ) → n ≡ get_or bytes at 0 → Ok ((n, 7), at + 1) ≡ groups_at bytes at
  one-group n is =
      let e : get_or bytes at 0 ≡ sum_of_groups bytes at (0 + 1) = rw add-zero (omega arith) in
      groups-last bytes at 0 (λ k below. absurd (omega arith)) (omega arith) (omega arith) (rw add-zero last) n 7 (at + 1) (is ∙ e) refl (omega arith)

  pub uleb-short : (n : ℕ) → n ≡ get_or bytes at 0 → Ok (n, at + 1) ≡ uleb_at bytes at
  unfolding uleb_at
  uleb-short n is = rw (← one-group n is) (grind (arith, nat_tests))

  pub sleb-short : (n : ℕ) (z : ℤ) → n ≡ get_or bytes at 0 → z ≡ with_sign n 7 → IsTrue (fits_i64 z) → Ok (z, at + 1) ≡ sleb_at bytes at
  unfolding sleb_at
  sleb-short n z is signed fits = rw (← one-group n is) (grind (arith, nat_tests))
