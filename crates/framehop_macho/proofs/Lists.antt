-- Lists of distinct members in lexicographic order, and the one of a rank.
use Rattle.std.proofs.Common.{
  ◌≡◌,
  ℕ,
  zero,
  suc,
  ◌+◌,
  ◌-◌,
  ◌*◌,
  ◌/◌,
  ◌%◌,
  ◌<◌,
  ◌≤◌,
  List,
  [],
  ◌∷◌,
  ◌++◌,
  length,
  map,
  Option,
  Some,
  None,
  refl,
  ap,
  sym,
  ◌∙◌,
  arith,
  length-append,
  append_assoc,
  sub-one,
  lit≤,
}
use Rattle.std.specs.List.{slice_get, flat_map, remove}
use Rattle.std.specs.Option.{option_map, option_and_then}
use Rattle.std.proofs.Math.Nat.{suc-mul, mul-zero, mul-le-mul_left, div-add-mod, mul_comm, mod-lt, zero-mul}
use Rattle.std.proofs.lemmas.List.{length-map, append-nil}
use Rattle.std.proofs.lemmas.List.Edits.{length-remove}
use Rattle.std.proofs.lemmas.Option.{slice_get-map, slice_get_past, slice_get_within}
use Rattle.framehop_core.specs.Laws.Basics.{option_map-some}
use Rattle.framehop_macho.specs.SavedRegisters.{choices, lists_of, list_count}

-- ---- places in a sum of lists

slice_get-left : {A : Type 0} (xs ys : List A) (n : ℕ) → n < length xs → slice_get (xs ++ ys) n ≡ slice_get xs n
slice_get-left [] ys n below = absurd (omega arith)
slice_get-left (x ∷ xs) ys zero below = refl
slice_get-left (x ∷ xs) ys (suc n) below = slice_get-left xs ys n (omega arith)

slice_get-right : {A : Type 0} (xs ys : List A) (n m : ℕ) → m ≡ length xs + n → slice_get (xs ++ ys) m ≡ slice_get ys n
slice_get-right [] ys n m is = ap (slice_get ys) (omega arith)
slice_get-right (x ∷ xs) ys n zero is = absurd (omega arith)
slice_get-right (x ∷ xs) ys n (suc m) is = slice_get-right xs ys n m (omega arith)

-- ---- blocks of one length

-- the blocks that a list opens have one length
abbrev HasBlocks : {X Y : Type 0} → (X → List Y) → List X → ℕ → Type 0
HasBlocks {X} f xs b = (k : ℕ) (x : X) → slice_get xs k ≡ Some x → length (f x) ≡ b

length-blocks : {X Y : Type 0} (f : X → List Y) (xs : List X) (b : ℕ) → HasBlocks f xs b → length (flat_map f xs) ≡ length xs * b
length-blocks f [] b each = sym (zero-mul b)
length-blocks f (x ∷ xs) b each =
    let first : length (f x) ≡ b = each 0 x refl in
    let rest = length-blocks f xs b (λ k. each (suc k)) in
    rw (length-append, suc-mul) (omega arith)

slice_get-blocks : {X Y : Type 0} (f : X → List Y) (xs : List X) (b r q d : ℕ) → HasBlocks f xs b → r ≡ q * b + d
    → d < b → slice_get (flat_map f xs) r ≡ option_and_then (λ x. slice_get (f x) d) (slice_get xs q)
slice_get-blocks f [] b r q d each is below = refl
slice_get-blocks f (x ∷ xs) b r zero d each is below =
    let first : length (f x) ≡ b = each 0 x refl in
    let same : r ≡ d = omega arith in
    slice_get-left (f x) (flat_map f xs) r (omega arith) ∙ ap (slice_get (f x)) same
slice_get-blocks f (x ∷ xs) b r (suc q) d each is below =
    let first : length (f x) ≡ b = each 0 x refl in
    let rest : r ≡ length (f x) + (q * b + d) = omega (arith, suc-mul q b) in
    slice_get-right (f x) (flat_map f xs) (q * b + d) r rest
    ∙ slice_get-blocks f xs b (q * b + d) q d (λ k. each (suc k)) refl below

-- ---- choices

length-choices : {A : Type 0} (pool : List A) → length (choices pool) ≡ length pool
length-choices [] = refl
length-choices (x ∷ xs) = rw length-map (ap suc (length-choices xs))

option_map-option_map : {A B C : Type 0} (f : A → B) (g : B → C) (o : Option A) → option_map g (option_map f o) ≡ option_map (λ x. g (f x)) o
option_map-option_map f g None = refl
option_map-option_map f g (Some x) = refl

slice_get-choices : {A : Type 0} (pool : List A) (q : ℕ) → slice_get (choices pool) q ≡ option_map (λ x. (x, remove pool q)) (slice_get pool q)
slice_get-choices [] q = refl
slice_get-choices (x ∷ xs) zero = refl
slice_get-choices {A} (x ∷ xs) (suc q) =
    slice_get-map (λ (choice : A × List A). (choice.0, x ∷ choice.1)) (choices xs) q
    ∙ ap (option_map (λ (choice : A × List A). (choice.0, x ∷ choice.1))) (slice_get-choices xs q)
    ∙ option_map-option_map (λ y. (y, remove xs q)) (λ (choice : A × List A). (choice.0, x ∷ choice.1)) (slice_get xs q)

length-others : {A : Type 0} (pool : List A) (k : ℕ) (choice : A × List A) → slice_get (choices pool) k ≡ Some choice → length choice.1 + 1 ≡ length pool
length-others {A} pool k choice e =
    let found = option_map-some (λ x. (x, remove pool k)) (slice_get pool k) choice (sym (slice_get-choices pool k) ∙ e) in
    let within = slice_get_within pool k found.0 found.1 in
    ap (λ (c : A × List A). length c.1 + 1) (sym found.2) ∙ length-remove pool k within

-- ---- lists

blocks-lists_of : {A : Type 0} (n : ℕ) (pool : List A) (b : ℕ) → b ≡ list_count n (length pool - 1)
    → ((others : List A) → length (lists_of n others) ≡ list_count n (length others))
    → HasBlocks (λ choice. map (λ list. choice.0 ∷ list) (lists_of n choice.1)) (choices pool) b
blocks-lists_of n pool b is each k choice e =
    let others : length choice.1 ≡ length pool - 1 = omega (arith, length-others pool k choice e) in
    length-map (lists_of n choice.1) (λ list. choice.0 ∷ list) ∙ each choice.1 ∙ ap (list_count n) others ∙ sym is

pub length-lists_of : {A : Type 0} (n : ℕ) (pool : List A) → length (lists_of n pool) ≡ list_count n (length pool)
length-lists_of zero pool = refl
length-lists_of (suc n) [] = refl
length-lists_of (suc n) (x ∷ xs) =
    let b = list_count n (length xs) in
    let one : length (x ∷ xs) - 1 ≡ length xs = omega arith in
    length-blocks (λ choice. map (λ list. choice.0 ∷ list) (lists_of n choice.1)) (choices (x ∷ xs)) b (blocks-lists_of n (x ∷ xs) b (ap (list_count n) (sym one)) (length-lists_of n))
    ∙ ap (λ m. m * b) (length-choices (x ∷ xs))

first-of-lists : {A : Type 0} (n d : ℕ) (pool : List A) (q : ℕ) (o : Option A)
    → option_and_then (λ (choice : A × List A). slice_get (map (λ list. choice.0 ∷ list) (lists_of n choice.1)) d)
    (option_map (λ x. (x, remove pool q)) o) ≡ option_and_then
    (λ x. option_map (λ list. x ∷ list) (slice_get (lists_of n (remove pool q)) d)) o
first-of-lists n d pool q None = refl
first-of-lists n d pool q (Some x) = slice_get-map (λ list. x ∷ list) (lists_of n (remove pool q)) d

pub slice_get-lists_of : {A : Type 0} (n rest b q d : ℕ) (pool : List A) → b ≡ list_count n (length pool - 1)
    → rest ≡ q * b + d → d < b → slice_get (lists_of (suc n) pool) rest ≡ option_and_then
    (λ x. option_map (λ list. x ∷ list) (slice_get (lists_of n (remove pool q)) d)) (slice_get pool q)
slice_get-lists_of {A} n rest b q d pool is at below =
    slice_get-blocks (λ choice. map (λ list. choice.0 ∷ list) (lists_of n choice.1)) (choices pool) b rest q d (blocks-lists_of n pool b is (length-lists_of n)) at below
    ∙ ap (option_and_then (λ (choice : A × List A). slice_get (map (λ list. choice.0 ∷ list) (lists_of n choice.1)) d)) (slice_get-choices pool q)
    ∙ first-of-lists n d pool q (slice_get pool q)

div_mod : (rest b : ℕ) → rest ≡ rest / b * b + rest % b
div_mod rest b = omega (arith, div-add-mod rest b, mul_comm b (rest / b))

-- ---- one step of the search for a rank

before-first : {A : Type 0} (saved : List A) (x : A) (o : Option (List A)) → option_map (λ list. saved ++ list) (option_map (λ list. x ∷ list) o) ≡ option_map (λ list. (saved ++ (x ∷ [])) ++ list) o
before-first saved x None = refl
before-first saved x (Some list) = ap Some (sym (append_assoc saved (x ∷ []) list))

next-block : {A : Type 0} (saved pool : List A) (x : A) (n m rest b q d : ℕ) → n ≡ suc m
    → b ≡ list_count m (length pool - 1) → rest ≡ q * b + d → d < b → slice_get pool q ≡ Some x
    → option_map (λ list. saved ++ list) (slice_get (lists_of n pool) rest) ≡ option_map
    (λ list. (saved ++ (x ∷ [])) ++ list) (slice_get (lists_of m (remove pool q)) d)
next-block {A} saved pool x n m rest b q d is_next is at below found =
    ap (λ k. option_map (λ list. saved ++ list) (slice_get (lists_of k pool) rest)) is_next
    ∙ ap (option_map (λ list. saved ++ list)) (slice_get-lists_of m rest b q d pool is at below
    ∙ ap (option_and_then (λ (y : A). option_map (λ list. y ∷ list) (slice_get (lists_of m (remove pool q)) d))) found)
    ∙ before-first saved x (slice_get (lists_of m (remove pool q)) d)

-- the same by division
pub next-found : {A : Type 0} (saved pool : List A) (x : A) (n m rest b : ℕ) → n ≡ suc m
    → b ≡ list_count m (length pool - 1) → 0 < b → slice_get pool (rest / b) ≡ Some x
    → option_map (λ list. saved ++ list) (slice_get (lists_of n pool) rest) ≡ option_map
    (λ list. (saved ++ (x ∷ [])) ++ list) (slice_get (lists_of m (remove pool (rest / b))) (rest % b))
next-found saved pool x n m rest b is_next is some found =
    next-block saved pool x n m rest b (rest / b) (rest % b) is_next is (div_mod rest b) (mod-lt rest some) found

pub next-none : {A : Type 0} (saved pool : List A) (n m rest b : ℕ) → n ≡ suc m → b ≡ list_count m (length pool - 1)
    → 0 < b → slice_get pool (rest / b) ≡ None
    → option_map (λ list. saved ++ list) (slice_get (lists_of n pool) rest) ≡ None
next-none {A} saved pool n m rest b is_next is some none =
    ap (λ k. option_map (λ list. saved ++ list) (slice_get (lists_of k pool) rest)) is_next
    ∙ ap (option_map (λ list. saved ++ list)) (slice_get-lists_of m rest b (rest / b) (rest % b) pool is (div_mod rest b) (mod-lt rest some)
    ∙ ap (option_and_then (λ (y : A). option_map (λ list. y ∷ list) (slice_get (lists_of m (remove pool (rest / b))) (rest % b)))) none)

-- the same where the lists after the step are given by equations
pub next-kept : {A : Type 0} (saved pool saved' pool' : List A) (x : A) (n m rest b : ℕ) (all : Option (List A))
    → n ≡ suc m → b ≡ list_count m (length pool - 1) → 0 < b → Some x ≡ slice_get pool (rest / b)
    → saved' ≡ saved ++ (x ∷ []) → pool' ≡ remove pool (rest / b)
    → option_map (λ list. saved ++ list) (slice_get (lists_of n pool) rest) ≡ all
    → option_map (λ list. saved' ++ list) (slice_get (lists_of m pool') (rest % b)) ≡ all
next-kept saved pool saved' pool' x n m rest b all is_next is some found saved_is pool_is before =
    ap (λ s. option_map (λ list. s ++ list) (slice_get (lists_of m pool') (rest % b))) saved_is
    ∙ ap (λ p. option_map (λ list. (saved ++ (x ∷ [])) ++ list) (slice_get (lists_of m p) (rest % b))) pool_is
    ∙ sym (next-found saved pool x n m rest b is_next is some (sym found)) ∙ before

pub list_count-same : (count members n m : ℕ) (result : ℕ) → result ≡ list_count count members → count ≡ n → members ≡ m → result ≡ list_count n m
list_count-same count members n m result is a b = is ∙ ap (λ k. list_count k members) a ∙ ap (list_count n) b

-- at the end
pub last-found : {A : Type 0} (saved pool : List A) (n rest : ℕ) → n ≡ 0 → rest ≡ 0 → option_map (λ list. saved ++ list) (slice_get (lists_of n pool) rest) ≡ Some saved
last-found saved pool n rest none is_zero =
    ap (λ k. option_map (λ list. saved ++ list) (slice_get (lists_of k pool) rest)) none
    ∙ ap (λ r. option_map (λ list. saved ++ list) (slice_get (lists_of 0 pool) r)) is_zero
    ∙ ap Some (append-nil saved)

pub last-none : {A : Type 0} (saved pool : List A) (n rest : ℕ) → n ≡ 0 → 0 < rest → option_map (λ list. saved ++ list) (slice_get (lists_of n pool) rest) ≡ None
last-none saved pool n zero none some = absurd (omega arith)
last-none saved pool n (suc rest) none some = ap (λ k. option_map (λ list. saved ++ list) (slice_get (lists_of k pool) (suc rest))) none

-- ---- counts

list_count-beyond : (n m : ℕ) → m < n → list_count n m ≡ 0
list_count-beyond zero m below = absurd (omega arith)
list_count-beyond (suc n) zero below = refl
list_count-beyond (suc n) (suc m) below = ap (λ k. suc m * k) (list_count-beyond n m (omega arith)) ∙ mul-zero (suc m)

pub beyond-none : {A : Type 0} (n rest : ℕ) (pool : List A) → length pool < n → slice_get (lists_of n pool) rest ≡ None
beyond-none n rest pool beyond =
    let none : length (lists_of n pool) ≡ 0 = length-lists_of n pool ∙ list_count-beyond n (length pool) beyond in
    slice_get_past (lists_of n pool) rest (omega arith)

abbrev factorial : ℕ → ℕ
factorial zero = 1
factorial (suc n) = suc n * factorial n

positive : (n m : ℕ) → 0 < n → 0 < suc m * n
positive n m some = rw suc-mul (omega arith)

factorial-some : (n : ℕ) → 1 ≤ factorial n
factorial-some zero = omega arith
factorial-some (suc n) = positive (factorial n) n (factorial-some n)

list_count-factorial : (n m : ℕ) → list_count n m ≤ factorial m
list_count-factorial zero m = factorial-some m
list_count-factorial (suc n) zero = omega arith
list_count-factorial (suc n) (suc m) = mul-le-mul_left (suc m) (list_count-factorial n m)

factorial-few : (m : ℕ) → m ≤ 6 → factorial m ≤ 720
factorial-few zero few = lit≤ tt
factorial-few (suc zero) few = lit≤ tt
factorial-few (suc (suc zero)) few = lit≤ tt
factorial-few (suc (suc (suc zero))) few = lit≤ tt
factorial-few (suc (suc (suc (suc zero)))) few = lit≤ tt
factorial-few (suc (suc (suc (suc (suc zero))))) few = lit≤ tt
factorial-few (suc (suc (suc (suc (suc (suc zero)))))) few = lit≤ tt
factorial-few (suc (suc (suc (suc (suc (suc (suc m))))))) few = absurd (omega arith)

pub list_count-suc : (n m : ℕ) → 0 < n → 0 < m → list_count n m ≡ m * list_count (n - 1) (m - 1)
list_count-suc zero m a b = absurd (omega arith)
list_count-suc (suc n) zero a b = absurd (omega arith)
list_count-suc (suc n) (suc m) a b = simp sub-one refl

-- the product by which a count is made
pub list_count-few : (n m count : ℕ) → 0 < n → 0 < m → m ≤ 6 → count ≡ list_count (n - 1) (m - 1) → m * count ≤ 720
list_count-few n m count a b few is =
    let same : m * count ≡ list_count n m = ap (λ k. m * k) is ∙ sym (list_count-suc n m a b) in
    omega (arith, same, list_count-factorial n m, factorial-few m few)
