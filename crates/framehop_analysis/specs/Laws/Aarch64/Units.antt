-- Offsets in bytes as the rules' fields hold them, constructed with the proof that each is the only one.
use Rattle.std.proofs.Common.{inl, inr, ◌+◌, ◌*◌, ◌/◌, ◌^◌, ℤ, pos, negsuc, ◌-ℤ◌, Some, None, arith}
use Rattle.std.proofs.lemmas.Int.{ints}
use Rattle.framehop_analysis.specs.Answer.{Decided}
use Rattle.framehop_analysis.specs.Aarch64.Units.{IsUnitsOf16, IsUnitsOf8}
use Rattle.framehop_analysis.specs.Laws.Answer.{decidable-and, eq-decidable, le-decidable, lt-decidable}

pub units_of_16-decided : (bytes : ℤ) → Decided (IsUnitsOf16 bytes)
units_of_16-decided (pos n) = elim (decidable-and (eq-decidable n (n / 16 * 16)) (lt-decidable (n / 16) (2 ^ 16))) [
  | inl both ↦ (let whole = both.0 in
      (Some (n / 16), ((omega (arith, ints), both.1), λ x is. (let e = is.0 in omega (arith, ints)))))
  | inr none ↦ (None, λ x is. (let e = is.0 in let fits = is.1 in none (omega (arith, ints), omega (arith, ints))))
]
units_of_16-decided (negsuc n) = (None, λ x is. (let e = is.0 in omega (arith, ints)))

pub units_of_8-decided : (bytes : ℤ) → Decided (IsUnitsOf8 bytes)
units_of_8-decided (pos n) = elim (decidable-and (eq-decidable n (n / 8 * 8)) (le-decidable (n / 8) 32767)) [
  | inl both ↦ (let whole = both.0 in let fits = both.1 in (
    Some (pos (n / 8)),
    ((omega (arith, ints), omega (arith, ints), omega (arith, ints)), λ y is. (let e = is.0 in omega (arith, ints))),
  ))
  | inr none ↦ (
    None,
    λ y is.
        (let e = is.0 in let least = is.1 in let most = is.2 in none (omega (arith, ints), omega (arith, ints))),
  )
]
units_of_8-decided (negsuc n) =
    elim (decidable-and (eq-decidable (n + 1) ((n + 1) / 8 * 8)) (le-decidable ((n + 1) / 8) 32768)) [
      | inl both ↦ (let whole = both.0 in let fits = both.1 in (
        Some (pos 0 -ℤ pos ((n + 1) / 8)),
        (
          (omega (arith, ints), omega (arith, ints), omega (arith, ints)),
          λ y is. (let e = is.0 in omega (arith, ints)),
        ),
      ))
      | inr none ↦ (
        None,
        λ y is.
            (let e = is.0 in let least = is.1 in let most = is.2 in none (omega (arith, ints), omega (arith, ints))),
      )
    ]
