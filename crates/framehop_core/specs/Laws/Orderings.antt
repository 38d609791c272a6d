-- The orderings of registers: each list of distinct registers among the eight has a number, and what a number orders is
-- such a list.
use Rattle.std.proofs.Common.{◌≡◌, ◌≢◌, ℕ, zero, suc, ◌+◌, ◌*◌, ◌/◌, ◌%◌, ◌<◌, ◌≤◌, List, [], ◌∷◌, ◌++◌, length, take, drop, get_or, refl, sym, ap, ◌∙◌, subst, arith, get_or-set_same, get_or-set_other, length-set, inl, inr, ◌⊎◌, Contains, All, AllPairs}
use Rattle.std.specs.List.{swap}
use Rattle.std.proofs.lemmas.List.{get_or_default}
use Rattle.std.proofs.lemmas.Bool.{cases_eq}
use Rattle.std.proofs.lemmas.Nat.{div-mul-add, mod-mul-add, mod_below}
use Rattle.std.proofs.Math.Nat.{mul-le-mul_left, mul-le-mul_right}
use Rattle.framehop_core.specs.declared.x86_64.unwindregs.Reg.{Reg}
use Rattle.framehop_core.specs.declared.x86_64.unwindregs.Reg.TheVariants.{RBX, RBP, RDI, RSI, R12, R13, R14, R15}
use Rattle.framehop_core.specs.X86_64.Ordering.{eight, exchanges, ordering, IsArrangement, IsEncoding}

-- ---- one exchange

-- what is left of a pool when the element at the digit is taken, the first standing in its place
abbrev pub remaining : {X : Type 0} → List X → ℕ → List X
remaining pool digit = drop 1 (swap pool 0 digit)

front :
    {X : Type 0} (x : X) (xs : List X) (digit : ℕ) (tail : List X)
    → take 1 (swap (x ∷ xs) 0 digit) ++ tail ≡ get_or (x ∷ xs) digit x ∷ tail
front x xs zero tail = refl
front x xs (suc digit) tail = refl

-- one more place: the element at the digit, then the places after it
pub exchanges-suc :
    {X : Type 0} (k n : ℕ) (x : X) (xs : List X)
    → exchanges (suc k) n (x ∷ xs)
    ≡ get_or (x ∷ xs) (n % suc k) x ∷ exchanges k (n / suc k) (remaining (x ∷ xs) (n % suc k))
unfolding exchanges
exchanges-suc k n x xs = front x xs (n % suc k) (exchanges k (n / suc k) (remaining (x ∷ xs) (n % suc k)))

pub length-remaining : {X : Type 0} (x : X) (xs : List X) (digit : ℕ) → length (remaining (x ∷ xs) digit) ≡ length xs
length-remaining x xs zero = refl
length-remaining x xs (suc digit) = length-set xs digit x

-- where the element at i of what is left stood before
record Stood {X : Type 0} (pool : List X) (digit i : ℕ) : Type 0 where
  at : ℕ
  within : at < length pool
  same : (z : X) → get_or (remaining pool digit) i z ≡ get_or pool at z
  place : ((suc i ≡ digit) × (at ≡ 0)) ⊎ ((suc i ≢ digit) × (at ≡ suc i))

stood_behind :
    {X : Type 0} (x : X) (xs : List X) (digit i : ℕ) → digit < length xs → i < length xs → (i ≡ digit) ⊎ (i ≢ digit)
    → Stood (x ∷ xs) (suc digit) i
stood_behind x xs digit i h within (inl e) = record {
  at = 0;
  within = omega arith;
  same = λ z. rw e (get_or-set_same xs digit x z h);
  place = inl (ap suc e, refl);
}
stood_behind x xs digit i h within (inr e) = record {
  at = suc i;
  within = omega arith;
  same = λ z. get_or-set_other xs digit i x z e;
  place = inr (omega arith, refl);
}

stood :
    {X : Type 0} (x : X) (xs : List X) (digit i : ℕ) → digit < suc (length xs) → i < length xs → Stood (x ∷ xs) digit i
stood x xs zero i h within = record {
  at = suc i;
  within = omega arith;
  same = λ z. refl;
  place = inr (omega arith, refl);
}
stood x xs (suc digit) i h within = stood_behind x xs digit i (omega arith) within (cases_eq i digit)

-- no element stands in the list twice
pub record IsInjective {X : Type 0} (xs : List X) : Type 0 where
  pub unique : (i j : ℕ) (z : X) → i < length xs → j < length xs → get_or xs i z ≡ get_or xs j z → i ≡ j

pub IsInjective-remaining :
    {X : Type 0} (x : X) (xs : List X) (digit : ℕ) → digit < suc (length xs) → IsInjective (x ∷ xs)
    → IsInjective (remaining (x ∷ xs) digit)
IsInjective-remaining x xs digit h injective = record {
  unique = λ i j z hi hj e.
      let n = length-remaining x xs digit in
      let a = stood x xs digit i h (omega arith) in
      let b = stood x xs digit j h (omega arith) in
      let same = injective.unique a.at b.at z a.within b.within (sym (a.same z) ∙ e ∙ b.same z) in
      omega (arith, a.place, b.place);
}

-- what stands elsewhere in the pool is left
left_at :
    {X : Type 0} (x : X) (xs : List X) (digit j : ℕ) (z : X) → digit < suc (length xs) → j < suc (length xs) → j ≢ digit
    → (i : ℕ) × (i < length xs) × (get_or (remaining (x ∷ xs) digit) i z ≡ get_or (x ∷ xs) j z)
left_at x xs zero zero z h within apart = absurd (apart refl)
left_at x xs zero (suc j) z h within apart = (j, omega arith, refl)
left_at x xs (suc digit) zero z h within apart = (digit, omega arith, get_or-set_same xs digit x z (omega arith))
left_at x xs (suc digit) (suc j) z h within apart = (j, omega arith, get_or-set_other xs digit j x z (omega arith))

pub Contains-remaining :
    {X : Type 0} (x : X) (xs : List X) (digit : ℕ) (y : X) → digit < suc (length xs) → get_or (x ∷ xs) digit y ≢ y
    → Contains (x ∷ xs) y → Contains (remaining (x ∷ xs) digit) y
Contains-remaining x xs digit y h other (j, within, is) =
    let apart : j ≢ digit = λ e. other (rw (← e) is) in
    let left = left_at x xs digit j y h within apart in
    (left.0, rw (length-remaining x xs digit) left.1, left.2 ∙ is)

-- ---- numbers and orderings

-- a digit below a radix, and a number above it
digit_of : (k m digit : ℕ) → digit < suc k → (m * suc k + digit) % suc k ≡ digit
digit_of k m digit h = mod-mul-add m (suc k) digit h

above_digit : (k m digit : ℕ) → digit < suc k → (m * suc k + digit) / suc k ≡ m
above_digit k m digit h = div-mul-add m (suc k) digit h

pub exchanges-digit :
    {X : Type 0} (m digit : ℕ) (x : X) (xs : List X) → digit < suc (length xs)
    → exchanges (suc (length xs)) (m * suc (length xs) + digit) (x ∷ xs)
    ≡ get_or (x ∷ xs) digit x ∷ exchanges (length xs) m (remaining (x ∷ xs) digit)
exchanges-digit m digit x xs h =
    exchanges-suc (length xs) (m * suc (length xs) + digit) x xs
    ∙ rw (digit_of (length xs) m digit h, above_digit (length xs) m digit h)

-- ---- each list of distinct elements of a pool has a number

Contains-tail :
    {X : Type 0} (x : X) (xs : List X) (digit : ℕ) (r : X) (rs : List X) → digit < suc (length xs)
    → get_or (x ∷ xs) digit r ≡ r → AllPairs (λ a b. a ≢ b) (r ∷ rs) → All (Contains (x ∷ xs)) (r ∷ rs)
    → All (Contains (remaining (x ∷ xs) digit)) rs
Contains-tail x xs digit r rs h is distinct among = λ k d within.
    let y = get_or rs k d in
    let other : get_or (x ∷ xs) digit y ≢ y =
    λ e. distinct 0 (suc k) d (omega arith) (omega arith) (sym is ∙ get_or_default (x ∷ xs) digit r y h ∙ e) in
    Contains-remaining x xs digit y h other (among (suc k) d (omega arith))

-- a number orders a pool so that these come first
abbrev pub Orders : {X : Type 0} → ℕ → List X → List X → Type 0
Orders n pool xs = take (length xs) (exchanges (length pool) n pool) ≡ xs

-- one more in front, by its digit
pub Orders-cons :
    {X : Type 0} (x : X) (xs : List X) (digit m : ℕ) (r : X) (rs : List X) → digit < suc (length xs)
    → get_or (x ∷ xs) digit r ≡ r → Orders m (remaining (x ∷ xs) digit) rs
    → Orders (m * suc (length xs) + digit) (x ∷ xs) (r ∷ rs)
Orders-cons x xs digit m r rs h is orders =
    let pool = remaining (x ∷ xs) digit in
    let tail : take (length rs) (exchanges (length xs) m pool) ≡ rs =
    subst (λ k. take (length rs) (exchanges k m pool) ≡ rs) (length-remaining x xs digit) orders in
    let first : get_or (x ∷ xs) digit x ≡ r = get_or_default (x ∷ xs) digit x r h ∙ is in
    ap (take (suc (length rs))) (exchanges-digit m digit x xs h)
    ∙ ap (λ y. y ∷ take (length rs) (exchanges (length xs) m pool)) first
    ∙ ap (λ ys. r ∷ ys) tail

-- and the way back: the first is the element at the number's digit
pub record IsFrontOf {X : Type 0} (n : ℕ) (x : X) (xs : List X) (r : X) (rs : List X) : Type 0 where
  pub first : get_or (x ∷ xs) (n % suc (length xs)) r ≡ r
  pub others : Orders (n / suc (length xs)) (remaining (x ∷ xs) (n % suc (length xs))) rs

pub IsFrontOf-cons :
    {X : Type 0} (n : ℕ) (x : X) (xs : List X) (r : X) (rs : List X) → Orders n (x ∷ xs) (r ∷ rs)
    → IsFrontOf n x xs r rs
IsFrontOf-cons n x xs r rs orders =
    let digit = n % suc (length xs) in
    let below : digit < suc (length xs) = mod_below n (suc (length xs)) (omega arith) in
    let m = n / suc (length xs) in
    let pool = remaining (x ∷ xs) digit in
    let both : get_or (x ∷ xs) digit x ∷ take (length rs) (exchanges (length xs) m pool) ≡ r ∷ rs =
    sym (ap (take (suc (length rs))) (exchanges-suc (length xs) n x xs)) ∙ orders in
    let first : get_or (x ∷ xs) digit x ≡ r = cc in
    let tail : take (length rs) (exchanges (length xs) m pool) ≡ rs = cc in
    record {
      first = get_or_default (x ∷ xs) digit r x below ∙ first;
      others = subst (λ k. take (length rs) (exchanges k m pool) ≡ rs) (sym (length-remaining x xs digit)) tail;
    }

-- the orderings of a pool have numbers below this
unfoldable pub factorial : ℕ → ℕ
factorial zero = 1
factorial (suc k) = suc k * factorial k

record IsNumbered {X : Type 0} (pool xs : List X) : Type 0 where
  number : ℕ
  orders : Orders number pool xs
  fits : length xs ≤ length pool
  below : number < factorial (length pool)

factorial-positive : (k : ℕ) → 1 ≤ factorial k
unfolding factorial
factorial-positive zero = omega arith
factorial-positive (suc k) =
    let product : suc k * 1 ≤ suc k * factorial k = mul-le-mul_left (suc k) (factorial-positive k) in
    omega arith

-- a digit below a radix, and a number above it
digit-below : (m digit k product : ℕ) → m < product → digit < suc k → m * suc k + digit < suc k * product
digit-below m digit k product h within =
    let least : suc m * suc k ≤ product * suc k = mul-le-mul_right (suc k) (omega arith) in
    omega arith

numbered : {X : Type 0} (pool xs : List X) → AllPairs (λ a b. a ≢ b) xs → All (Contains pool) xs → IsNumbered pool xs
unfolding factorial
numbered pool [] distinct among = record {
  number = 0;
  orders = refl;
  fits = omega arith;
  below = factorial-positive (length pool);
}
numbered [] (r ∷ rs) distinct among = absurd (omega (arith, (among 0 r (omega arith)).1))
numbered (x ∷ xs) (r ∷ rs) distinct among =
    let (digit, h, is) = among 0 r (omega arith) in
    let others : AllPairs (λ a b. a ≢ b) rs = λ i j d a b. distinct (suc i) (suc j) d (omega arith) (omega arith) in
    let tail = numbered (remaining (x ∷ xs) digit) rs others (Contains-tail x xs digit r rs h is distinct among) in
    let n = length-remaining x xs digit in
    record {
      number = tail.number * suc (length xs) + digit;
      orders = Orders-cons x xs digit tail.number r rs h is tail.orders;
      fits = omega (arith, tail.fits);
      below =
          let smaller = rw n at tail.below in
          digit-below tail.number digit (length xs) (factorial (length xs)) smaller h;
    }

-- ---- what a number orders is distinct, and of the pool

All-cons : {X : Type 0} (P : X → Type 0) (x : X) (xs : List X) → P x → All P xs → All P (x ∷ xs)
All-cons P x xs here rest zero d h = here
All-cons P x xs here rest (suc k) d h = rest k d (omega arith)

AllPairs-cons :
    {X : Type 0} (x : X) (xs : List X) → All (λ y. x ≢ y) xs → AllPairs (λ a b. a ≢ b) xs
    → AllPairs (λ a b. a ≢ b) (x ∷ xs)
AllPairs-cons x xs here rest zero zero d less h = absurd (omega arith)
AllPairs-cons x xs here rest (suc i) zero d less h = absurd (omega arith)
AllPairs-cons x xs here rest zero (suc j) d less h = here j d (omega arith)
AllPairs-cons x xs here rest (suc i) (suc j) d less h = rest i j d (omega arith) (omega arith)

record IsArranged {X : Type 0} (pool xs : List X) : Type 0 where
  distinct : AllPairs (λ a b. a ≢ b) xs
  among : All (Contains pool) xs

nothing_arranged : {X : Type 0} (pool : List X) → IsArranged pool []
nothing_arranged pool = record {
  distinct = λ i j d less h. absurd (omega arith);
  among = λ i d h. absurd (omega arith);
}

-- an element of what is left stands in the pool, and is not the one taken
Contains-back :
    {X : Type 0} (x : X) (xs : List X) (digit : ℕ) (y : X) → digit < suc (length xs) → IsInjective (x ∷ xs)
    → Contains (remaining (x ∷ xs) digit) y → Contains (x ∷ xs) y × (get_or (x ∷ xs) digit x ≢ y)
Contains-back x xs digit y h injective (i, within, is) =
    let n = length-remaining x xs digit in
    let place = stood x xs digit i h (omega arith) in
    let at : get_or (x ∷ xs) place.at y ≡ y = sym (place.same y) ∙ is in (
      (place.at, place.within, at),
      λ e.
          let equal = get_or_default (x ∷ xs) digit y x h ∙ e ∙ sym at in
          let same = injective.unique digit place.at y h place.within equal in
          absurd (omega (arith, place.place)),
    )

arranged :
    {X : Type 0} (count n k : ℕ) (pool : List X) → k ≡ length pool → IsInjective pool
    → IsArranged pool (take count (exchanges k n pool))
unfolding exchanges
arranged zero n k pool e injective = nothing_arranged pool
arranged (suc count) n zero [] e injective = nothing_arranged []
arranged (suc count) n zero (x ∷ xs) e injective = absurd (omega arith)
arranged (suc count) n (suc k) [] e injective = absurd (omega arith)
arranged (suc count) n (suc k) (x ∷ xs) e injective =
    let digit = n % suc k in
    let below : digit < suc (length xs) = omega (arith, mod_below n (suc k) (omega arith)) in
    let pool' = remaining (x ∷ xs) digit in
    let left = IsInjective-remaining x xs digit below injective in
    let rest = arranged count (n / suc k) k pool' (omega (arith, length-remaining x xs digit)) left in
    let tail = take count (exchanges k (n / suc k) pool') in
    let is = ap (take (suc count)) (exchanges-suc k n x xs) in
    let first = get_or (x ∷ xs) digit x in
    let old : All (λ y. Contains (x ∷ xs) y × (first ≢ y)) tail =
    λ i d h. Contains-back x xs digit (get_or tail i d) below injective (rest.among i d h) in
    let here : Contains (x ∷ xs) first = (digit, below, get_or_default (x ∷ xs) digit first x below) in
    subst (IsArranged (x ∷ xs)) (sym is) (record {
      distinct = AllPairs-cons first tail (λ i d h. (old i d h).1) rest.distinct;
      among = All-cons (Contains (x ∷ xs)) first tail here (λ i d h. (old i d h).0);
    })

-- where a register stands among the eight
location_of : Reg → ℕ
location_of RBX = 0
location_of RBP = 1
location_of RDI = 2
location_of RSI = 3
location_of R12 = 4
location_of R13 = 5
location_of R14 = 6
location_of R15 = 7
location_of _ = 8

location_of-eight : (i : ℕ) (z : Reg) → i < 8 → location_of (get_or eight i z) ≡ i
unfolding location_of
location_of-eight zero z h = refl
location_of-eight (suc zero) z h = refl
location_of-eight (suc (suc zero)) z h = refl
location_of-eight (suc (suc (suc zero))) z h = refl
location_of-eight (suc (suc (suc (suc zero)))) z h = refl
location_of-eight (suc (suc (suc (suc (suc zero))))) z h = refl
location_of-eight (suc (suc (suc (suc (suc (suc zero)))))) z h = refl
location_of-eight (suc (suc (suc (suc (suc (suc (suc zero))))))) z h = refl
location_of-eight (suc (suc (suc (suc (suc (suc (suc (suc i)))))))) z h = absurd (omega arith)

pub IsInjective-eight : IsInjective eight
IsInjective-eight = record {
  unique = λ i j z hi hj e. sym (location_of-eight i z hi) ∙ ap location_of e ∙ location_of-eight j z hj;
}

-- ---- the lists that have an ordering

-- an arrangement has a number below 8!, and at most eight registers
pub IsArrangement-number :
    (registers : List Reg) → IsArrangement registers
    → (n : ℕ) × (ordering (length registers) n ≡ registers) × (length registers ≤ 8) × (n < 40320)
unfolding ordering factorial
IsArrangement-number registers h =
    let numbered = numbered eight registers h.distinct h.among in
    (numbered.number, numbered.orders, numbered.fits, numbered.below)

-- whatever the number, an ordering is an arrangement
pub IsArrangement-ordering : (count n : ℕ) → IsArrangement (ordering count n)
unfolding ordering
IsArrangement-ordering count n =
    let arranged = arranged count n 8 eight refl IsInjective-eight in
    record { distinct = arranged.distinct; among = arranged.among }

-- what is encoded is an arrangement
pub IsArrangement-encoding :
    (registers : List Reg) (count n : ℕ) → IsEncoding registers count n → IsArrangement registers
IsArrangement-encoding registers count n e = subst IsArrangement e.orders (IsArrangement-ordering count n)
