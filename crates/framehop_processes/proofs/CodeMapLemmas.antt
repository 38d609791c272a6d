-- Which function is in force at an address, of those that were put one after another.
use Rattle.std.proofs.Common.{◌≡◌, ◌≢◌, ℕ, ◌+◌, ◌<◌, ◌≤◌, ◌⊎◌, inl, inr, Bool, true, false, cond, List, [], ◌∷◌, length, take, reverse, get_or, Option, Some, None, if◌then◌else◌, refl, ap, sym, ◌∙◌, subst, arith}
use Rattle.std.proofs.lemmas.Bool.{cases_lt, cases_order, lt-ltb, le-ltb, le-leb, lt-leb}
use Rattle.std.proofs.lemmas.Bool.Decides.{nat_tests}
use Rattle.std.proofs.lemmas.List.{take_more, reverse-append}
use Rattle.std.proofs.lemmas.Option.{slice_get-get_or}
use Rattle.std.specs.BTreeMap.{BTreeMap, get}
use Rattle.std.specs.List.{slice_get}
use Rattle.std.specs.Option.{IsSome}
use Rattle.std.specs.Ordering.{nat_cmp, is_eq, is_lt, is_gt}
use Rattle.std.proofs.lemmas.Map.Keys.{ge_from_not_lt}
use Rattle.framehop_processes.specs.CodeMap.{has_address_between, has_code_at, code_function_at, IsInForce, function_of, AreNumberedOf}
use Rattle.framehop_processes.specs.declared.code_map.CodeFunction.{CodeFunction}

-- at an address one is in force
same-key : (index : BTreeMap ℕ (Option ℕ)) (k : ℕ) (v w : Option ℕ) → get nat_cmp index k ≡ Some v → get nat_cmp index k ≡ Some w → v ≡ w
same-key index k v w first second =
    let both : Some v ≡ Some w = sym first ∙ second in
    cc

no-key : (index : BTreeMap ℕ (Option ℕ)) (k : ℕ) (v : Option ℕ) → get nat_cmp index k ≡ None → get nat_cmp index k ≡ Some v → ⊥
no-key index k v none some =
    let both : None ≡ Some v = sym none ∙ some in
    cc

one-by-keys : (index : BTreeMap ℕ (Option ℕ)) (a k j : ℕ) (v w : Option ℕ) → k ≤ a → j ≤ a
    → get nat_cmp index k ≡ Some v → get nat_cmp index j ≡ Some w
    → ((above : ℕ) → k < above → above ≤ a → get nat_cmp index above ≡ None)
    → ((above : ℕ) → j < above → above ≤ a → get nat_cmp index above ≡ None)
    → (k ≡ j) ⊎ ((k < j) ⊎ (j < k)) → v ≡ w
one-by-keys index a k j v w k-low j-low at-k at-j above-k above-j (inl same) =
    same-key index k v w at-k (ap (get nat_cmp index) same ∙ at-j)
one-by-keys index a k j v w k-low j-low at-k at-j above-k above-j (inr (inl below)) =
    absurd (no-key index j w (above-k j below j-low) at-j)
one-by-keys index a k j v w k-low j-low at-k at-j above-k above-j (inr (inr over)) =
    absurd (no-key index k v (above-j k over k-low) at-k)

pub one-in-force : (index : BTreeMap ℕ (Option ℕ)) (a : ℕ) (v w : Option ℕ) → IsInForce index a v → IsInForce index a w → v ≡ w
one-in-force index a v w (inl none) (inl other) = none.1 ∙ sym other.1
one-in-force index a v w (inl none) (inr other) = absurd (no-key index other.0 w (none.0 other.0 other.1) other.2)
one-in-force index a v w (inr found) (inl none) = absurd (no-key index found.0 v (none.0 found.0 found.1) found.2)
one-in-force index a v w (inr found) (inr other) =
    one-by-keys index a found.0 other.0 v w found.1 other.1 found.2 other.2 found.3 other.3 (cases_order found.0 other.0)

-- what is put in force from `start` on, up to `end`, where `after` was
module _ (old new : BTreeMap ℕ (Option ℕ)) (start end : ℕ) (number after : Option ℕ) (some : start < end)
    (was : IsInForce old end after) (at-start : get nat_cmp new start ≡ Some number) (at-end : get nat_cmp new end ≡ Some after)
    (inside : (key : ℕ) → start < key → key < end → get nat_cmp new key ≡ None)
    (below : (key : ℕ) → key < start → get nat_cmp new key ≡ get nat_cmp old key)
    (over : (key : ℕ) → end < key → get nat_cmp new key ≡ get nat_cmp old key) where
  put-below : (a : ℕ) (before : Option ℕ) → a < start → IsInForce old a before → IsInForce new a before
  put-below a before low (inl none) = inl (λ key at. below key (omega (arith, low, at)) ∙ none.0 key at, none.1)
  put-below a before low (inr found) =
      let key-low = found.1 in
      inr (
        found.0,
        found.1,
        below found.0 (omega (arith, low, key-low)) ∙ found.2,
        λ above more at. below above (omega (arith, low, at)) ∙ found.3 above more at,
      )

  put-inside : (a : ℕ) → start ≤ a → a < end → IsInForce new a number
  put-inside a from within = inr (start, from, at-start, λ above more at. inside above more (omega (arith, at, within)))

  put-over-by : (a : ℕ) (before : Option ℕ) → end ≤ a → (key : ℕ) → key ≤ a → get nat_cmp old key ≡ Some before
      → ((above : ℕ) → key < above → above ≤ a → get nat_cmp old above ≡ None) → (end < key) ⊎ (key ≤ end)
      → IsInForce new a before
  put-over-by a before from key low at rest (inl more) =
      inr (key, low, over key more ∙ at, λ above higher up. over above (omega (arith, more, higher)) ∙ rest above higher up)
  put-over-by a before from key low at rest (inr less) =
      let there : IsInForce old end before = inr (key, less, at, λ above higher up. rest above higher (omega (arith, up, from))) in
      let same : after ≡ before = one-in-force old end after before was there in
      inr (end, from, at-end ∙ ap Some same, λ above higher up. over above higher ∙ rest above (omega (arith, higher, less)) up)

  put-over : (a : ℕ) (before : Option ℕ) → end ≤ a → IsInForce old a before → IsInForce new a before
  put-over a before from (inl none) =
      let there : IsInForce old end None = inl (λ key at. none.0 key (omega (arith, at, from)), refl) in
      let same : after ≡ before = one-in-force old end after None was there ∙ sym none.1 in
      inr (end, from, at-end ∙ ap Some same, λ above higher up. over above higher ∙ none.0 above up)
  put-over a before from (inr found) =
      put-over-by a before from found.0 found.1 found.2 found.3 (cases_lt end found.0)

  put-by : (a : ℕ) (before : Option ℕ) → IsInForce old a before → (a < start) ⊎ (start ≤ a) → (a < end) ⊎ (end ≤ a)
      → IsInForce new a (if has_address_between start end a then number else before)
  put-by a before is (inl low) second =
      rw (lt-leb start a low) (put-below a before low is)
  put-by a before is (inr from) (inl within) =
      rw (le-leb start a from, lt-ltb a end within) (put-inside a from within)
  put-by a before is (inr from) (inr past) =
      rw (le-leb start a from, le-ltb a end past) (put-over a before past is)

  pub put-in-force : (a : ℕ) (before : Option ℕ) → IsInForce old a before
      → IsInForce new a (if has_address_between start end a then number else before)
  put-in-force a before is = put-by a before is (cases_lt a start) (cases_lt a end)

-- another key than the one that changes
pub key-below : (k q : ℕ) → q < k → is_eq (nat_cmp k q) ≡ false
key-below k q low = grind (arith, nat_tests)

pub key-over : (k q : ℕ) → k < q → is_eq (nat_cmp k q) ≡ false
key-over k q high = grind (arith, nat_tests)

key-by : (k q : ℕ) → q ≢ k → (q ≡ k) ⊎ ((q < k) ⊎ (k < q)) → is_eq (nat_cmp k q) ≡ false
key-by k q ne (inl same) = absurd (ne same)
key-by k q ne (inr (inl low)) = key-below k q low
key-by k q ne (inr (inr high)) = key-over k q high

pub key-other : (k q : ℕ) → q ≢ k → is_eq (nat_cmp k q) ≡ false
key-other k q ne = key-by k q ne (cases_order q k)

-- ---- functions, one after another

last-by : (a : ℕ) (functions first : List CodeFunction) (i : ℕ) (f : CodeFunction) (before : Option ℕ) (b : Bool)
    → slice_get functions i ≡ Some f → function_of functions before ≡ code_function_at first a → has_code_at a f ≡ b
    → function_of functions (if b then Some i else before) ≡ cond b (Some f) (code_function_at first a)
last-by a functions first i f before true at was has = at
last-by a functions first i f before false at was has = was

-- one more function is the last that has an address, or else the one before
pub last-more : (a : ℕ) (items functions : List CodeFunction) (i : ℕ) (f d : CodeFunction) (before : Option ℕ) → items ≡ functions
    → i < length items → f ≡ get_or items i d → function_of functions before ≡ code_function_at (take i functions) a
    → function_of functions (if has_code_at a f then Some i else before) ≡ code_function_at (take (i + 1) functions) a
last-more a items functions i f d before same inside read was =
    let within : i < length functions = subst (λ all. i < length all) same inside in
    let is : f ≡ get_or functions i d = read ∙ ap (λ all. get_or all i d) same in
    let at : slice_get functions i ≡ Some f = slice_get-get_or functions i d within ∙ ap Some (sym is) in
    let more : reverse (take (i + 1) functions) ≡ f ∷ reverse (take i functions) =
    ap reverse (take_more functions i d within) ∙ reverse-append (take i functions) (get_or functions i d ∷ [])
    ∙ ap (λ g. g ∷ reverse (take i functions)) (sym is) in
    rw more (last-by a functions (take i functions) i f before (has_code_at a f) at was refl)

-- no key is above the greatest
none-by : (index : BTreeMap ℕ (Option ℕ)) (key above : ℕ) → key < above → (found : Option (Option ℕ)) → get nat_cmp index above ≡ found
    → (IsSome found → is_lt (nat_cmp key above) ≡ false) → found ≡ None
none-by index key above higher None is greatest = refl
none-by index key above higher (Some v) is greatest =
    let low = ge_from_not_lt key above (greatest refl) in
    absurd (omega (arith, low, higher))

pub none-over : (index : BTreeMap ℕ (Option ℕ)) (key above : ℕ) → key < above
    → (IsSome (get nat_cmp index above) → is_lt (nat_cmp key above) ≡ false) → get nat_cmp index above ≡ None
none-over index key above higher greatest =
    none-by index key above higher (get nat_cmp index above) refl greatest

pub not-over : (a b : ℕ) → a ≤ b → is_gt (nat_cmp a b) ≡ false
not-over a b low = grind (arith, nat_tests)

-- the function of the number that is in force
pub function-in-force : (functions : List CodeFunction) (index : BTreeMap ℕ (Option ℕ)) (a : ℕ) (number : Option ℕ)
    → AreNumberedOf functions functions index → IsInForce index a number → function_of functions number ≡ code_function_at functions a
function-in-force functions index a number numbered is =
    let there = numbered a in
    ap (function_of functions) (one-in-force index a number there.0 is there.1) ∙ there.2
