-- Windows in order: at most one of them tells of an address.
use Rattle.std.proofs.Common.{◌≡◌, ℕ, zero, suc, ◌+◌, ◌-◌, ◌*◌, ◌/◌, ◌%◌, ◌≤◌, Bool, true, false, ◌&&◌, ◌==◌, nat_le, List, [], ◌∷◌, length, Some, None, option_map, slice_get, refl, sym, ◌∙◌, arith, rules}
use Rattle.std.proofs.lemmas.Option.{slice_get_past}
use Rattle.framehop_lent.specs.Window.{words_from, told_by, told_in, end_of, above}
use Rattle.framehop_lent.specs.declared.window.Window.{Window}

-- what a test decides
le-of : (m n : ℕ) → nat_le m n ≡ true → m ≤ n
le-of m n is = search (rules, is)

both : (one other : Bool) → (one && other) ≡ true → (one ≡ true) × (other ≡ true)
both true true is = (refl, refl)
both true false is = cc
both false other is = cc

-- a window ends above its base
base-below : (w : Window) → w.base ≤ end_of w
base-below w = of (length w.words.now == 0) refl
  where
    of : (none : Bool) → (length w.words.now == 0) ≡ none → w.base ≤ end_of w
    of true is = rw is (omega arith)
    of false is = rw is (omega arith)

-- each window has its base there, or above
all-above : (end : ℕ) (windows : List Window) → above end windows ≡ true → (n : ℕ) (v : Window) → slice_get windows n ≡ Some v → end ≤ v.base
all-above end [] ordered n v is = cc
all-above end (w ∷ windows) ordered zero v is =
    let order = both (nat_le end w.base) (above (end_of w) windows) ordered in
    let same : w ≡ v = cc in
    rw same at (le-of end w.base order.0)
all-above end (w ∷ windows) ordered (suc n) v is =
    let order = both (nat_le end w.base) (above (end_of w) windows) ordered in
    omega (arith, le-of end w.base order.0, base-below w, all-above (end_of w) windows order.1 n v is)

-- a window tells of no address from its end on
nothing-past : (w : Window) (address : ℕ) → end_of w ≤ address → told_by w address ≡ None
nothing-past w address past = of (length w.words.now == 0) refl
  where
    within : (there : Bool) → (nat_le w.base address && ((address - w.base) % 8 == 0)) ≡ there → 8 * length w.words.now ≤ address - w.base → option_map Some (words_from w.base w.words.now address) ≡ None
    within true is far = rw is (rw (slice_get_past w.words.now ((address - w.base) / 8) (omega (arith, far))) refl)
    within false is far = rw is refl

    of : (none : Bool) → (length w.words.now == 0) ≡ none → told_by w address ≡ None
    of true is =
        let above : w.base + 1 ≤ address = rw is at past in
        let other : (address == w.base) ≡ false = search (rules, above) in
        rw (is, other) refl
    of false is =
        let above : w.base + 8 * length w.words.now ≤ address = rw is at past in
        rw is (within (nat_le w.base address && ((address - w.base) % 8 == 0)) refl (omega (arith, above)))

-- a window without words has none
no-word : (w : Window) (address : ℕ) → (length w.words.now == 0) ≡ true → words_from w.base w.words.now address ≡ None
no-word w address empty = of (nat_le w.base address && ((address - w.base) % 8 == 0)) refl
  where
    of : (there : Bool) → (nat_le w.base address && ((address - w.base) % 8 == 0)) ≡ there → words_from w.base w.words.now address ≡ None
    of true is = let none : length w.words.now ≤ (address - w.base) / 8 = search (rules, empty) in rw is (slice_get_past w.words.now ((address - w.base) / 8) none)
    of false is = rw is refl

-- a window that has the word tells it, and its base lies at or below the address
has-word : (w : Window) (address word : ℕ) → words_from w.base w.words.now address ≡ Some word → (w.base ≤ address) × (told_by w address ≡ Some (Some word))
has-word w address word is = (low (nat_le w.base address) refl, told (length w.words.now == 0) refl)
  where
    low : (there : Bool) → nat_le w.base address ≡ there → w.base ≤ address
    low true is_there = le-of w.base address is_there
    low false isnt = let no : words_from w.base w.words.now address ≡ None = rw isnt refl in absurd-some (sym is ∙ no)
      where
        absurd-some : {A : Type 0} → Some word ≡ None → A
        absurd-some e = cc

    told : (none : Bool) → (length w.words.now == 0) ≡ none → told_by w address ≡ Some (Some word)
    told true empty = let never : Some word ≡ None = sym is ∙ no-word w address empty in cc
    told false some = rw (some, is) refl

-- the word of one of the windows, whichever it is, is what they tell
pub told-in-order : (end : ℕ) (windows : List Window) → above end windows ≡ true → (n : ℕ) (v : Window) → slice_get windows n ≡ Some v → (address word : ℕ) → words_from v.base v.words.now address ≡ Some word → told_in windows address ≡ Some (Some word)
told-in-order end [] ordered n v is address word has = cc
told-in-order end (w ∷ windows) ordered zero v is address word has =
    let same : w ≡ v = cc in
    let told : told_by w address ≡ Some (Some word) = rw same (has-word v address word has).1 in
    rw told refl
told-in-order end (w ∷ windows) ordered (suc n) v is address word has =
    let order = both (nat_le end w.base) (above (end_of w) windows) ordered in
    let past = nothing-past w address (omega (arith, all-above (end_of w) windows order.1 n v is, (has-word v address word has).0)) in
    rw past (told-in-order (end_of w) windows order.1 n v is address word has)
