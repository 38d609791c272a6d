-- The section that goes by a name, in the list and in the table that the list tells.
use Rattle.std.proofs.Common.{
  ◌≡◌,
  ℕ,
  ◌+◌,
  ◌<◌,
  ◌≤◌,
  suc,
  Bool,
  true,
  false,
  not,
  List,
  [],
  ◌∷◌,
  length,
  set,
  get_or,
  Some,
  None,
  Option,
  nat_lt,
  slice_get,
  option_and_then,
  refl,
  sym,
  ap,
  ◌∙◌,
  arith,
  cond,
  subst,
}
use Rattle.std.proofs.lemmas.List.Folds.{find_at}
use Rattle.std.proofs.lemmas.Bool.{ltb-true, ltb-false}
use Rattle.std.proofs.lemmas.Option.{slice_get_read, slice_get_past}
use Rattle.std.specs.List.{position_or_len, position, find}
use Rattle.std.specs.Option.{option_map}
use Rattle.std.specs.Global.{Global}
use Rattle.std.specs.declared.vec.Vec.{Vec}
use Rattle.framehop_bytes.specs.SectionTable.{Entry, entry_of, range_of, data_of, without_data}
use Rattle.framehop_walk.specs.Sections.{entry_view, entries_view, is_named}
use Rattle.framehop_walk.specs.declared.sections.Section.{Section}

-- the section when its data is taken
abbrev pub without_bytes : Section → Section
without_bytes section = record section { bytes = None }

-- the table's entry is that of the first section of the name
pub entry_of-entries_view : (name : List ℕ) (xs : List Section) → entry_of name (entries_view xs) ≡ option_map entry_view (find (is_named name) xs)
entry_of-entries_view name [] = refl
entry_of-entries_view name (x ∷ xs) =
    let later = entry_of-entries_view name xs in
    elim (is_named name x) as (λ b. cond b (Some (entry_view x)) (entry_of name (entries_view xs)) ≡ option_map entry_view (cond b (Some x) (find (is_named name) xs))) [
      | true ↦ refl
      | false ↦ later
    ]

absent-step : (b : Bool) (x : Section) (n len : ℕ) (later all : List (Entry (Vec ℕ Global)))
    → suc len ≤ cond (not b) (1 + n) 0 → (len ≤ n → later ≡ all)
    → cond b (entry_view (without_bytes x) ∷ all) (entry_view x ∷ later) ≡ entry_view x ∷ all
absent-step true x n len later all h f = absurd (omega arith)
absent-step false x n len later all h f = ap (λ es. entry_view x ∷ es) (f (omega arith))

-- no section goes by the name, so taking its data changes nothing
pub without_data-absent : (name : List ℕ) (xs : List Section) → length xs ≤ position_or_len (is_named name) xs → without_data name (entries_view xs) ≡ entries_view xs
without_data-absent name [] h = refl
without_data-absent name (x ∷ xs) h =
    absent-step (is_named name x) x (position_or_len (is_named name) xs) (length xs) (without_data name (entries_view xs)) (entries_view xs) h (without_data-absent name xs)

present-step : (b : Bool) (x d : Section) (xs : List Section) (n : ℕ) (later : List (Entry (Vec ℕ Global)))
    → cond (not b) (1 + n) 0 < suc (length xs) → (n < length xs → later ≡ entries_view (set xs n (without_bytes (get_or xs n d))))
    → cond b (entry_view (without_bytes x) ∷ entries_view xs) (entry_view x ∷ later)
    ≡ entries_view (set (x ∷ xs) (cond (not b) (1 + n) 0) (without_bytes (get_or (x ∷ xs) (cond (not b) (1 + n) 0) d)))
present-step true x d xs n later h f = refl
present-step false x d xs n later h f =
    let e : 1 + n ≡ suc n = omega arith in
    let P : ℕ → Type 0 = λ i. entry_view x ∷ later ≡ entries_view (set (x ∷ xs) i (without_bytes (get_or (x ∷ xs) i d))) in
    subst P (sym e) (ap (λ es. entry_view x ∷ es) (f (omega arith)))

-- taking the data under a name takes that of the first section of the name
pub without_data-present : (name : List ℕ) (xs : List Section) (d : Section) → position_or_len (is_named name) xs < length xs
    → without_data name (entries_view xs) ≡ entries_view (set xs (position_or_len (is_named name) xs) (without_bytes (get_or xs (position_or_len (is_named name) xs) d)))
without_data-present name [] d h = refl
without_data-present name (x ∷ xs) d h =
    present-step (is_named name x) x d xs (position_or_len (is_named name) xs) (without_data name (entries_view xs)) h (without_data-present name xs d)

placed : (b : Bool) (n i : ℕ) → cond b (Some n) None ≡ Some i → (b ≡ true) × (n ≡ i)
placed true n i h = (refl, cc)
placed false n i h = let no : ⊥ = cc in absurd no

unplaced : (b : Bool) (n : ℕ) → cond b (Some n) None ≡ None → b ≡ false
unplaced true n h = let no : ⊥ = cc in absurd no
unplaced false n h = refl

-- the location of the first section of the name lies in the list
location-within : (name : List ℕ) (xs : List Section) (i : ℕ) → position (is_named name) xs ≡ Some i → (i < length xs) × (position_or_len (is_named name) xs ≡ i)
location-within name xs i h =
    let n = position_or_len (is_named name) xs in
    let p = placed (nat_lt n (length xs)) n i h in
    let within : n < length xs = ltb-true n (length xs) p.0 in
    (subst (λ k. k < length xs) p.1 within, p.1)

-- no section goes by the name
location-past : (name : List ℕ) (xs : List Section) → position (is_named name) xs ≡ None → length xs ≤ position_or_len (is_named name) xs
location-past name xs h =
    let n = position_or_len (is_named name) xs in ltb-false n (length xs) (unplaced (nat_lt n (length xs)) n h)

-- the data under a name is that of the section at its location
pub data_of-location : (name : List ℕ) (xs : List Section) (i : ℕ) (x : Section) → position (is_named name) xs ≡ Some i → x ≡ get_or xs i x → data_of name (entries_view xs) ≡ x.bytes
data_of-location name xs i x h at =
    let p = location-within name xs i h in
    let e : find (is_named name) xs ≡ Some x = find_at (is_named name) xs ∙ ap (λ k. slice_get xs k) p.1 ∙ slice_get_read xs (length xs) i x refl p.0 at in
    ap (λ o. option_and_then (λ (entry : Entry (Vec ℕ Global)). entry.contents) o) (entry_of-entries_view name xs ∙ ap (λ o. option_map entry_view o) e)

-- taking it leaves the section there without its data
pub without_data-location : (name : List ℕ) (xs : List Section) (i : ℕ) (x : Section) → position (is_named name) xs ≡ Some i → x ≡ get_or xs i x
    → entries_view (set xs i (without_bytes x)) ≡ without_data name (entries_view xs)
without_data-location name xs i x h at =
    let p = location-within name xs i h in
    let P : ℕ → Type 0 = λ k. k < length xs → without_data name (entries_view xs) ≡ entries_view (set xs k (without_bytes (get_or xs k x))) in
    let e = subst P p.1 (without_data-present name xs x) p.0 in
    sym (e ∙ ap (λ y. entries_view (set xs i (without_bytes y))) (sym at))

-- there is no data under a name that no section goes by
pub data_of-no_place : (name : List ℕ) (xs : List Section) → position (is_named name) xs ≡ None → data_of name (entries_view xs) ≡ None
data_of-no_place name xs h =
    let e = find_at (is_named name) xs ∙ slice_get_past xs (position_or_len (is_named name) xs) (location-past name xs h) in
    ap (λ o. option_and_then (λ (entry : Entry (Vec ℕ Global)). entry.contents) o) (entry_of-entries_view name xs ∙ ap (λ o. option_map entry_view o) e)

pub without_data-no_place : (name : List ℕ) (xs : List Section) → position (is_named name) xs ≡ None → entries_view xs ≡ without_data name (entries_view xs)
without_data-no_place name xs h = sym (without_data-absent name xs (location-past name xs h))

-- the range of an entry is that of its section
range-view : (o : Option Section) → option_and_then (λ (entry : Entry (Vec ℕ Global)). entry.range) (option_map entry_view o) ≡ option_and_then (λ (s : Section). s.svma) o
range-view None = refl
range-view (Some s) = refl

-- the range under a name is that of its first section
pub range_of-entries_view : (name : List ℕ) (xs : List Section) (o : Option Section) → o ≡ find (is_named name) xs → range_of name (entries_view xs) ≡ option_and_then (λ s. s.svma) o
range_of-entries_view name xs o h =
    let e = entry_of-entries_view name xs ∙ ap (λ o. option_map entry_view o) (sym h) in
    ap (λ o. option_and_then (λ (entry : Entry (Vec ℕ Global)). entry.range) o) e ∙ range-view o
