-- Pairs in order: those of sorted keys, and parts of lists in order.
use Rattle.std.proofs.Common.{◌≡◌, ℕ, suc, ◌≤◌, true, List, [], ◌∷◌, ◌++◌, map, get_or, length-append, arith}
use Rattle.std.specs.List.Sorted.{IsNonDecreasing}
use Rattle.std.proofs.lemmas.Bool.Decides.{nat_tests}
use Rattle.std.proofs.lemmas.List.{get_or-map, length-map, get_or_append_left}
use Rattle.framehop_dwarf.specs.Index.{pair_of_key}
use Rattle.framehop_dwarf.specs.Tree.{not_after, IsAscending}

-- lesser keys are lesser pairs
not_after-keys : (a b : ℕ) → a ≤ b → not_after (pair_of_key a) (pair_of_key b) ≡ true
not_after-keys a b le = grind (arith, nat_tests)

pub ascending-keys : (keys : List ℕ) → IsNonDecreasing keys → IsAscending (map pair_of_key keys)
ascending-keys keys sorted = record {
  ordered = λ i j le below.
      let within = length-map keys pair_of_key in
      rw (get_or-map pair_of_key keys i 0 (0, 0) (omega arith), get_or-map pair_of_key keys j 0 (0, 0) (omega arith))
      (not_after-keys (get_or keys i 0) (get_or keys j 0) (sorted i j 0 le (omega arith)));
}

pub ascending-tail : (x : ℕ × ℕ) (xs : List (ℕ × ℕ)) → IsAscending (x ∷ xs) → IsAscending xs
ascending-tail x xs a = record { ordered = λ i j le below. a.ordered (suc i) (suc j) (omega arith) (omega arith) }

pub ascending-left : (xs ys : List (ℕ × ℕ)) → IsAscending (xs ++ ys) → IsAscending xs
ascending-left xs ys a = record {
  ordered = λ i j le below.
      let h = a.ordered i j le (omega (arith, length-append xs ys)) in
      rw (get_or_append_left xs ys (0, 0) i (omega arith), get_or_append_left xs ys (0, 0) j below) at h;
}

pub ascending-right : (xs ys : List (ℕ × ℕ)) → IsAscending (xs ++ ys) → IsAscending ys
ascending-right [] ys a = a
ascending-right (x ∷ xs) ys a = ascending-right xs ys (ascending-tail x (xs ++ ys) a)
