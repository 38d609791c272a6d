-- What the leading zeros of an address say of the mask up to its highest one.
use Rattle.std.proofs.Common.{◌≡◌, ℕ, suc, ◌+◌, ◌-◌, ◌*◌, ◌/◌, ◌^◌, ◌<◌, ◌≤◌, ◌⊎◌, Option, Some, None, ap, ◌∙◌, inl, inr, ⊎_elim, unwrap_or, arith}
use Rattle.std.specs.Option.{SomeIff}
use Rattle.std.specs.Int.Count.{count_leading_zeros, leading_length}
use Rattle.std.proofs.Math.Pow.{pow_mono}
use Rattle.std.proofs.Math.Nat.{pow-suc}
use Rattle.std.proofs.lemmas.Nat.Bits.{ones_shr}
use Rattle.std.proofs.lemmas.Bool.{cases_lt}
use Rattle.framehop_core.specs.Aarch64.Registers.{IsMaskUpTo}

-- no shorter run of ones holds the address
least-bits : (address bits fewer : ℕ) → 2 ^ bits ≤ 2 * address + 1 → address < 2 ^ fewer → (fewer < bits) ⊎ (bits ≤ fewer) → bits ≤ fewer
least-bits address bits fewer tight enough (inr h) = h
least-bits address bits fewer tight enough (inl h) =
    let below : suc fewer ≤ bits = omega arith in
    let longer : 2 ^ suc fewer ≤ 2 ^ bits = pow_mono below in
    absurd (omega (arith, pow-suc 2 fewer))

-- a shift by as many places as there are leading zeros, or no shift where there are 64
shifted : (zeros bits : ℕ) (o : Option ℕ) → zeros + bits ≡ 64 → SomeIff o (zeros < 64) ((2 ^ 64 - 1) / 2 ^ zeros) → unwrap_or o 0 ≡ 2 ^ bits - 1
shifted zeros bits (Some mask) e h =
    let within : zeros ≤ 64 = omega arith in
    let rest : 64 - zeros ≡ bits = omega arith in
    h.1 ∙ ones_shr 64 zeros within ∙ ap (λ n. 2 ^ n - 1) rest
shifted zeros bits None e h =
    let zero_bits : 0 ≡ bits = ⊎_elim (λ below. absurd (h below)) (λ (above : 64 ≤ zeros). omega arith) (cases_lt zeros 64) in
    ap (λ n. 2 ^ n - 1) zero_bits

pub IsMaskUpTo-shifted : (address : ℕ) (o : Option ℕ) → address < 2 ^ 64 → SomeIff o (count_leading_zeros 64 address < 64) ((2 ^ 64 - 1) / 2 ^ count_leading_zeros 64 address) → IsMaskUpTo address (unwrap_or o 0)
IsMaskUpTo-shifted address o fits h =
    let found = leading_length 64 address fits in
    record {
      bits = found.0;
      ones = shifted (count_leading_zeros 64 address) found.0 o found.1 h;
      enough = found.2;
      least = λ fewer enough. least-bits address found.0 fewer found.3 enough (cases_lt fewer found.0);
    }
