-- The orderings of registers: the loops of `decode` and `encode`.
use Rattle.std.proofs.Common.{◌≡◌, ◌≢◌, ℕ, zero, suc, ◌+◌, ◌-◌, ◌*◌, ◌/◌, ◌%◌, ◌<◌, ◌≤◌, List, [], ◌∷◌, ◌++◌, length, take, drop, get_or, refl, sym, ap, ◌∙◌, subst, arith, zero-add, suc-add, add-one, inl, inr, ◌⊎◌, All}
use Rattle.std.specs.List.{swap}
use Rattle.std.proofs.lemmas.List.{drop_more, drop-drop, length-drop, take-append-drop, take_all, drop_all}
use Rattle.std.proofs.lemmas.List.Edits.{swap_is, length-swap}
use Rattle.std.proofs.lemmas.Nat.{mod_below, div-add-mod'}
use Rattle.std.proofs.Math.Nat.{mul-le-mul_left, mul-le-mul_right, mul_assoc}
use Rattle.framehop_core.specs.declared.x86_64.unwindregs.Reg.{Reg}
use Rattle.framehop_core.specs.X86_64.Ordering.{eight, exchanges, ordering, IsArrangement, IsEncoding}
use Rattle.framehop_core.specs.Laws.Orderings.{remaining, exchanges-suc, length-remaining, IsInjective, IsInjective-remaining, IsInjective-eight, Orders, Orders-cons, IsFrontOf-cons, factorial, IsArrangement-number}

-- ---- an exchange inside a longer list

swap-cons : {X : Type 0} (x : X) (xs : List X) (i j : ℕ) → i < length xs → j < length xs → swap (x ∷ xs) (suc i) (suc j) ≡ x ∷ swap xs i j
swap-cons x xs i j hi hj = ap (λ ys. x ∷ ys) (swap_is xs i j x hi hj)

-- the places up to one, then the exchanges of the others: one more place is exchanged
abbrev pub exchanged_from : {X : Type 0} → ℕ → ℕ → ℕ → List X → List X
exchanged_from place k n xs = take place xs ++ exchanges k n (drop place xs)

pub exchanged_from-suc : {X : Type 0} (xs : List X) (place k n : ℕ) → place + suc k ≡ length xs → exchanged_from place (suc k) n xs ≡ exchanged_from (suc place) k (n / suc k) (swap xs place (place + n % suc k))
unfolding exchanges
exchanged_from-suc xs zero k n e = rw (zero-add (n % suc k)) refl
exchanged_from-suc [] (suc place) k n e = absurd (omega arith)
exchanged_from-suc (x ∷ xs) (suc place) k n e =
    let below : n % suc k < suc k = mod_below n (suc k) (omega arith) in
    let moved : swap (x ∷ xs) (suc place) (suc place + n % suc k) ≡ x ∷ swap xs place (place + n % suc k) = rw suc-add (swap-cons x xs place (place + n % suc k) (omega arith) (omega arith)) in
    ap (λ ys. x ∷ ys) (exchanged_from-suc xs place k n (omega arith)) ∙ sym (ap (exchanged_from (suc (suc place)) k (n / suc k)) moved)

-- the same with its digit and its quotient given
exchanges-at : {X : Type 0} (k n digit quotient : ℕ) (x : X) (xs : List X) → n % suc k ≡ digit → n / suc k ≡ quotient → exchanges (suc k) n (x ∷ xs) ≡ get_or (x ∷ xs) digit x ∷ exchanges k quotient (remaining (x ∷ xs) digit)
exchanges-at k n digit quotient x xs d q = exchanges-suc k n x xs ∙ rw (d, q)

pub exchanges-zero : {X : Type 0} (k : ℕ) (xs : List X) → k ≤ length xs → exchanges k 0 xs ≡ xs
unfolding exchanges
exchanges-zero zero xs h = refl
exchanges-zero (suc k) [] h = absurd (omega arith)
exchanges-zero (suc k) (x ∷ xs) h =
    exchanges-at k 0 0 0 x xs (omega arith) (omega arith) ∙ ap (λ ys. x ∷ ys) (exchanges-zero k xs (omega arith))

-- the step of the loop of `decode`
pub exchanged_from-more : {X : Type 0} (xs next all : List X) (place k radix rest digit : ℕ) → place + radix ≡ length xs → radix ≡ suc k → digit ≡ rest % radix → next ≡ swap xs place (place + digit) → exchanged_from place radix rest xs ≡ all → (length next ≡ length xs) × (exchanged_from (place + 1) k (rest / radix) next ≡ all)
exchanged_from-more xs next all place k radix rest digit fits radix_is digit_is next_is old =
    let more = exchanged_from-suc xs place k rest (omega arith) in (
      ap length next_is ∙ length-swap xs place (place + digit),
      rw (next_is, digit_is, radix_is, add-one) (sym more ∙ rw radix_is at old),
    )

-- and its end: at the last place, or where no digit is left
pub exchanged_from-all : {X : Type 0} (xs : List X) (place k rest : ℕ) → place + k ≡ length xs → (k ≡ 0) ⊎ (rest ≡ 0) → exchanged_from place k rest xs ≡ xs
unfolding exchanges
exchanged_from-all xs place k rest fits (inl e) = rw e (take-append-drop place xs)
exchanged_from-all xs place k rest fits (inr e) =
    rw e (ap (λ ys. take place xs ++ ys) (exchanges-zero k (drop place xs) (omega (arith, length-drop place xs))) ∙ take-append-drop place xs)

-- ---- encoding, register by register

factorial-at_least : (k : ℕ) → (1 ≤ factorial k) × (k ≤ factorial k)
unfolding factorial
factorial-at_least zero = (omega arith, omega arith)
factorial-at_least (suc k) =
    let before = factorial-at_least k in
    let product : suc k * 1 ≤ suc k * factorial k = mul-le-mul_left (suc k) before.0 in
    (omega arith, omega arith)

-- After some registers: the others are to be ordered in what is left of the eight, by a number m, and the whole list
-- is then the ordering of encoded + m * scale.
pub record Encodes (registers pool others : List Reg) (encoded scale : ℕ) : Type 0 where
  pub completes : (m : ℕ) → Orders m pool others → ordering (length registers) (encoded + m * scale) ≡ registers
  pub only : (n : ℕ) → ordering (length registers) n ≡ registers → (m : ℕ) × (n ≡ encoded + m * scale) × Orders m pool others
  pub room : scale * factorial (length pool) ≡ 40320
  pub below : encoded < scale
  pub injective : IsInjective pool

ordering-at : (registers : List Reg) (n m : ℕ) → m ≡ n → Orders n eight registers → ordering (length registers) m ≡ registers
unfolding ordering
ordering-at registers n m e orders = rw e orders

pub Encodes-start : (registers : List Reg) → Encodes registers eight registers 0 1
unfolding ordering factorial
Encodes-start registers = record {
  completes = λ m orders. ordering-at registers m (0 + m * 1) (omega arith) orders;
  only = λ n e. (n, omega arith, e);
  room = refl;
  below = omega arith;
  injective = IsInjective-eight;
}

numbers : (encoded scale radix quotient digit : ℕ) → encoded + digit * scale + quotient * (scale * radix) ≡ encoded + (quotient * radix + digit) * scale
numbers encoded scale radix quotient digit = omega arith

pub Encodes-more : (registers : List Reg) (x : Reg) (xs : List Reg) (r : Reg) (others : List Reg) (encoded scale digit : ℕ) → Encodes registers (x ∷ xs) (r ∷ others) encoded scale → digit < suc (length xs) → get_or (x ∷ xs) digit r ≡ r → Encodes registers (remaining (x ∷ xs) digit) others (encoded + digit * scale) (scale * suc (length xs))
unfolding factorial
Encodes-more registers x xs r others encoded scale digit old h is = record {
  completes = λ m orders.
      ap (ordering (length registers)) (numbers encoded scale (suc (length xs)) m digit)
      ∙ old.completes (m * suc (length xs) + digit) (Orders-cons x xs digit m r others h is orders);
  only = λ n e.
      let (m, n_is, orders) = old.only n e in
      let front = IsFrontOf-cons m x xs r others orders in
      let below : m % suc (length xs) < suc (length xs) = mod_below m (suc (length xs)) (omega arith) in
      let same : m % suc (length xs) ≡ digit = old.injective.unique (m % suc (length xs)) digit r below h (front.first ∙ sym is) in
      let m_is : m ≡ m / suc (length xs) * suc (length xs) + digit = sym (div-add-mod' m (suc (length xs))) ∙ ap (λ d. m / suc (length xs) * suc (length xs) + d) same in (
        m / suc (length xs),
        n_is ∙ ap (λ k. encoded + k * scale) m_is ∙ sym (numbers encoded scale (suc (length xs)) (m / suc (length xs)) digit),
        subst (λ d. Orders (m / suc (length xs)) (remaining (x ∷ xs) d) others) same front.others,
      );
  room = ap (λ k. scale * suc (length xs) * factorial k) (length-remaining x xs digit) ∙ mul_assoc scale (suc (length xs)) (factorial (length xs)) ∙ old.room;
  below =
      let step : digit * scale ≤ length xs * scale = mul-le-mul_right scale (omega arith) in
      omega (arith, old.below, step);
  injective = IsInjective-remaining x xs digit h old.injective;
}

-- the scale is a part of the product of all radices
pub Encodes-scale : (registers pool others : List Reg) (encoded scale : ℕ) → Encodes registers pool others encoded scale → (scale ≤ 40320) × (scale * length pool ≤ 40320)
Encodes-scale registers pool others encoded scale e =
    let least = factorial-at_least (length pool) in
    let one : scale * 1 ≤ scale * factorial (length pool) = mul-le-mul_left scale least.0 in
    let many : scale * length pool ≤ scale * factorial (length pool) = mul-le-mul_left scale least.1 in
    (omega (arith, e.room), omega (arith, e.room))

drop-swap : {X : Type 0} (xs : List X) (place digit : ℕ) → place + digit < length xs → drop place (swap xs place (place + digit)) ≡ swap (drop place xs) 0 digit
drop-swap xs zero digit h = rw (zero-add digit) refl
drop-swap [] (suc place) digit h = absurd (omega arith)
drop-swap (x ∷ xs) (suc place) digit h =
    let moved : swap (x ∷ xs) (suc place) (suc place + digit) ≡ x ∷ swap xs place (place + digit) = rw suc-add (swap-cons x xs place (place + digit) (omega arith) (omega arith)) in
    ap (drop (suc place)) moved ∙ drop-swap xs place digit (omega arith)

Encodes-step : (registers pool pool' left others : List Reg) (x : Reg) (xs : List Reg) (r : Reg) (encoded scale digit radix : ℕ) → pool ≡ x ∷ xs → left ≡ r ∷ others → pool' ≡ remaining pool digit → radix ≡ suc (length xs) → digit < radix → get_or pool digit r ≡ r → Encodes registers pool left encoded scale → Encodes registers pool' others (encoded + digit * scale) (scale * radix)
Encodes-step registers pool pool' left others x xs r encoded scale digit radix pool_is left_is pool'_is radix_is below is old =
    let before = rw (pool_is, left_is) at old in
    let stands = rw pool_is at is in
    let more = Encodes-more registers x xs r others encoded scale digit before (omega arith) stands in
    rw (pool'_is, pool_is, radix_is) more

-- all registers are encoded: the number is the least one of their ordering
pub Encodes-end : (registers pool : List Reg) (encoded scale : ℕ) → Encodes registers pool [] encoded scale → (ordering (length registers) encoded ≡ registers) × ((n : ℕ) → ordering (length registers) n ≡ registers → encoded ≤ n) × (encoded < 40320)
Encodes-end registers pool encoded scale e = (
  ap (ordering (length registers)) (omega arith) ∙ e.completes 0 refl,
  λ n is. let (m, n_is, orders) = e.only n is in omega arith,
  omega (arith, e.below, (Encodes-scale registers pool [] encoded scale e).0),
)

-- a register that is not among what is left: no number orders the list
pub Encodes-absent : (registers pool : List Reg) (r : Reg) (others : List Reg) (encoded scale : ℕ) → Encodes registers pool (r ∷ others) encoded scale → All (λ y. y ≢ r) pool → (n : ℕ) → ordering (length registers) n ≡ registers → ⊥
unfolding exchanges
Encodes-absent registers [] r others encoded scale e absent n is =
    let (m, n_is, orders) = e.only n is in
    cc
Encodes-absent registers (x ∷ xs) r others encoded scale e absent n is =
    let (m, n_is, orders) = e.only n is in
    let front = IsFrontOf-cons m x xs r others orders in
    absent (m % suc (length xs)) r (mod_below m (suc (length xs)) (omega arith)) front.first

-- The loop of `encode` at a place, with the order that the eight then stand in.
module _ (registers order : List Reg) (place encoded scale : ℕ) (z : Reg) (n : length order ≡ 8) (within : place < length registers) (room : place < 8) (old : Encodes registers (drop place order) (drop place registers) encoded scale) where
  whole : take (8 - place) (drop place order) ≡ drop place order
  whole = take_all (8 - place) (drop place order) (omega (arith, length-drop place order))

  others_is : drop place registers ≡ get_or registers place z ∷ drop (place + 1) registers
  others_is = drop_more registers place z within

  -- its numbers fit 16 bits
  pub Encodes-fits : (digit : ℕ) → digit < length (take (8 - place) (drop place order)) → (digit * scale ≤ 40320) × (encoded + digit * scale ≤ 40320) × (scale * (8 - place) ≤ 40320)
  Encodes-fits digit below =
      let size : length (drop place order) ≡ 8 - place = omega (arith, length-drop place order) in
      let digit_below : suc digit ≤ 8 - place = omega (arith, ap length whole, size, below) in
      let product : suc digit * scale ≤ (8 - place) * scale = mul-le-mul_right scale digit_below in
      let all : scale * (8 - place) ≤ 40320 = rw size at (Encodes-scale registers (drop place order) (drop place registers) encoded scale old).1 in
      let swapped : (8 - place) * scale ≡ scale * (8 - place) = omega arith in
      let first : encoded < scale = old.below in
      (omega arith, omega arith, all)

  pub Encodes-place : (next : List Reg) (digit : ℕ) → digit < length (take (8 - place) (drop place order)) → get_or (take (8 - place) (drop place order)) digit (get_or registers place z) ≡ get_or registers place z → next ≡ swap order place (place + digit) → (length next ≡ 8) × Encodes registers (drop (place + 1) next) (drop (place + 1) registers) (encoded + digit * scale) (scale * (8 - place))
  Encodes-place next digit below is next_is =
      let r = get_or registers place z in
      let size = length-drop place order in
      let digit_below : digit < 8 - place = omega (arith, ap length whole) in
      let stands : get_or (drop place order) digit r ≡ r = rw whole at is in
      let pool : drop place order ≡ get_or order place r ∷ drop (place + 1) order = drop_more order place r (omega arith) in
      let moved : drop (place + 1) next ≡ remaining (drop place order) digit = ap (drop (place + 1)) next_is ∙ sym (drop-drop 1 place (swap order place (place + digit))) ∙ ap (drop 1) (drop-swap order place digit (omega arith)) in
      let radix : suc (length (drop (place + 1) order)) ≡ 8 - place = omega (arith, length-drop (place + 1) order) in (
        ap length next_is ∙ length-swap order place (place + digit) ∙ n,
        Encodes-step registers (drop place order) (drop (place + 1) next) (drop place registers) (drop (place + 1) registers) (get_or order place r) (drop (place + 1) order) r encoded scale digit (8 - place) pool others_is moved (sym radix) digit_below stands old,
      )

  -- a register that is not among those left is in no ordering
  pub Encodes-refused : All (λ y. y ≢ get_or registers place z) (take (8 - place) (drop place order)) → IsArrangement registers → ⊥
  Encodes-refused absent arrangement =
      let number = IsArrangement-number registers arrangement in
      Encodes-absent registers (drop place order) (get_or registers place z) (drop (place + 1) registers) encoded scale (rw others_is at old) (rw whole at absent) number.0 number.1

-- after the last register
pub IsEncoding-end : (registers pool : List Reg) (place encoded scale : ℕ) → length registers ≤ place → Encodes registers pool (drop place registers) encoded scale → IsEncoding registers (length registers) encoded
IsEncoding-end registers pool place encoded scale last e =
    let end = Encodes-end registers pool encoded scale (rw (drop_all place registers last) at e) in
    record { counted = refl; below = end.2; orders = end.0; least = end.1 }
