-- Parts of a number under a mask.
use Rattle.std.proofs.Common.{◌≡◌, ℕ, ◌-◌, ◌/◌, ◌%◌, ◌^◌, ap, ◌∙◌, arith, bit_and}
use Rattle.std.proofs.Math.Nat.{mod-mod}
use Rattle.std.proofs.lemmas.Nat.{and_shr, and_mod, and_mask, and_le_r}

part : (number mask low count : ℕ)
    → bit_and number mask / 2 ^ low % 2 ^ count ≡ bit_and (number / 2 ^ low % 2 ^ count) (mask / 2 ^ low % 2 ^ count)
part number mask low count =
    ap (λ n. n % 2 ^ count) (and_shr number mask low) ∙ and_mod (number / 2 ^ low) (mask / 2 ^ low) count

-- the mask has all bits of the part
pub kept : (number mask low count : ℕ) → mask / 2 ^ low % 2 ^ count ≡ 2 ^ count - 1
    → bit_and number mask / 2 ^ low % 2 ^ count ≡ number / 2 ^ low % 2 ^ count
kept number mask low count all =
    part number mask low count ∙ ap (bit_and (number / 2 ^ low % 2 ^ count)) all
    ∙ and_mask (number / 2 ^ low % 2 ^ count) count ∙ mod-mod (number / 2 ^ low) (2 ^ count)

-- the mask has no bit of it
pub dropped : (number mask low count : ℕ) → mask / 2 ^ low % 2 ^ count ≡ 0
    → bit_and number mask / 2 ^ low % 2 ^ count ≡ 0
dropped number mask low count none =
    let masked = part number mask low count ∙ ap (bit_and (number / 2 ^ low % 2 ^ count)) none in
    let least = and_le_r (number / 2 ^ low % 2 ^ count) 0 in
    omega (arith, masked, least)
