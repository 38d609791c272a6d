-- Reading a CIE's augmentation letter by letter gives what its text says.
use Rattle.std.proofs.Common.{
  ◌≡◌,
  ℕ,
  zero,
  suc,
  ◌+◌,
  ◌-◌,
  ◌*◌,
  ◌%◌,
  ◌^◌,
  ◌<◌,
  ◌≤◌,
  ◌≢◌,
  ◌⊎◌,
  Bool,
  true,
  false,
  List,
  [],
  ◌∷◌,
  ◌++◌,
  length,
  take,
  drop,
  get_or,
  map,
  slice_range,
  Some,
  Result,
  Ok,
  ℤ,
  refl,
  ap,
  sym,
  subst,
  ◌∙◌,
  inl,
  inr,
  arith,
  leb,
  ltb,
  ◌==◌,
  ◌||◌,
  if◌then◌else◌,
  append_assoc,
  length-append,
  length-drop,
  get_or-drop,
  add-one,
}
use Rattle.std.proofs.Math.Seq.{drop-append_seam, drop-nil}
use Rattle.std.proofs.lemmas.Bool.{cases_Bool, cases_lt, eqb-true, eq-eqb, le-leb}
use Rattle.std.proofs.lemmas.Bool.Decides.{nat_tests}
use Rattle.std.proofs.lemmas.List.{take-append-drop, get_or_append_left, drop_more, drop-take, length-take-le}
use Rattle.std.specs.Int.{cast_unsigned, w64}
use Rattle.std.specs.List.{flat_map, last_or, AllByRecursion}
use Rattle.framehop_bytes.specs.Bytes.{◌>>=◌, le2, le4, le8}
use Rattle.framehop_cfi.specs.Numbers.{sized_at, u8_at, u16_at, u32_at, u64_at}
use Rattle.framehop_cfi.specs.Leb128.{continued, sum_of_groups, groups_at, uleb_at, sleb_at, with_sign, fits_i64}
use Rattle.framehop_cfi.specs.Raw.{raw_at, format_of, sign_extended}
use Rattle.framehop_cfi.specs.Pointer.{pointer_at, base_of, application_of}
use Rattle.framehop_cfi.specs.Augmentation.{counted_at, personality_at, letter_at, letters_at, augmentation_data, augmentation_at}
use Rattle.framehop_cfi.specs.AugmentationMeaning.{
  IsPointer,
  of_two,
  of_four,
  of_eight,
  of_uleb,
  of_sleb,
  CountsFromKnown,
  AreArguments,
  of_r,
  of_l,
  of_p,
  of_p_without,
  of_flag,
  Lettered,
  encodings_of,
  HasData,
  HasNoData,
  HasAugmentation,
}
use Rattle.framehop_cfi.specs.declared.augmentation.Augmentation.{Augmentation}
use Rattle.framehop_cfi.specs.declared.pointer.SectionBaseAddresses.{SectionBaseAddresses}
use Rattle.framehop_cfi.specs.declared.read_error.ReadError.{ReadError}
use Rattle.framehop_cfi.proofs.Leb.{groups-last}
use Rattle.framehop_cfi.proofs.Extents.{bind_ok}

-- ---- bytes at the front of a rest

-- these bytes are in front of what is left from a place on
abbrev Fronts : List ℕ → List ℕ → ℕ → ℕ → Type 0
Fronts front bytes at next = (drop at bytes ≡ front ++ drop next bytes) × (next ≡ at + length front)

drop-drop : {A : Type 0} (n m : ℕ) (xs : List A) → drop m (drop n xs) ≡ drop (n + m) xs
drop-drop zero m xs = let same : m ≡ zero + m = omega arith in ap (λ k. drop k xs) same
drop-drop (suc n) m [] = drop-nil m ∙ sym (drop-nil (suc n + m))
drop-drop (suc n) m (x ∷ xs) =
    let same : suc (n + m) ≡ suc n + m = omega arith in drop-drop n m xs ∙ ap (λ k. drop k (x ∷ xs)) same

-- the bytes between two places
between : (bytes : List ℕ) (at n : ℕ) → at + n ≤ length bytes
    → (length (take n (drop at bytes)) ≡ n) × (drop at bytes ≡ take n (drop at bytes) ++ drop (at + n) bytes)
between bytes at n within =
    let enough : n ≤ length (drop at bytes) = rw length-drop (omega arith) in (
      length-take-le n (drop at bytes) enough,
      sym (take-append-drop n (drop at bytes)) ∙ ap (λ xs. take n (drop at bytes) ++ xs) (drop-drop at n bytes),
    )

-- bytes in front lie in the whole
fits : (front more bytes : List ℕ) (at : ℕ) → drop at bytes ≡ front ++ more → 0 < length front
    → at + length front ≤ length bytes
fits front more bytes at is some =
    let whole = sym (length-drop at bytes) ∙ ap length is ∙ length-append front more in omega arith

after : (front more bytes : List ℕ) (at : ℕ) → drop at bytes ≡ front ++ more → drop (at + length front) bytes ≡ more
after front more bytes at is =
    sym (drop-drop at (length front) bytes) ∙ ap (drop (length front)) is ∙ drop-append_seam front more

same-bytes : (front more bytes : List ℕ) (at : ℕ) → drop at bytes ≡ front ++ more
    → (k : ℕ) → k < length front → get_or bytes (at + k) 0 ≡ get_or front k 0
same-bytes front more bytes at is k below =
    sym (get_or-drop at bytes k 0) ∙ ap (λ xs. get_or xs k 0) is ∙ get_or_append_left front more 0 k below

-- ---- one LEB128 number

continued-each : (xs : List ℕ) (k : ℕ) → k < continued xs → 128 ≤ get_or xs k 0
continued-each [] k below = absurd (omega arith)
continued-each (x ∷ xs) zero below = grind (arith, nat_tests)
continued-each (x ∷ xs) (suc k) below = grind (arith, nat_tests, continued-each xs k)

continued-last : (xs : List ℕ) → get_or xs (continued xs) 0 < 128
continued-last [] = omega arith
continued-last (x ∷ xs) =
    elim (cases_Bool (leb 128 x)) [
      | inl more ↦ rw more (continued-last xs)
      | inr last ↦ rw last (grind (arith, nat_tests))
    ]

-- what groups are read at a place
record Groups (bytes : List ℕ) (at : ℕ) (read : ℕ × ℕ) (next : ℕ) : Type 0 where
  pub count : ℕ
  pub few : count < 10
  pub within : at + count < length bytes
  pub before : (k : ℕ) → k < count → 128 ≤ get_or bytes (at + k) 0
  pub last : get_or bytes (at + count) 0 < 128
  pub is_read : (sum_of_groups bytes at (count + 1), 7 * (count + 1)) ≡ read
  pub is_next : at + count + 1 ≡ next

one-reading : {A : Type 0} (a b : A × ℕ) → ◌≡◌ {A = Result (A × ℕ) ReadError} (Ok a) (Ok b) → a ≡ b
one-reading a b is = cc

groups-of : (bytes : List ℕ) (at : ℕ) (read : ℕ × ℕ) (next : ℕ) → groups_at bytes at ≡ Ok (read, next)
    → Groups bytes at read next
unfolding groups_at
groups-of bytes at read next is =
    let more = continued (drop at bytes) in
    elim (cases_Bool (leb 10 more)) [
      | inl many ↦ (let e = rw many at is in cc)
      | inr few ↦
          let e = rw few at is in
          elim (cases_Bool (leb (length bytes) (at + more))) [
            | inl ends ↦ (let f = rw ends at e in cc)
            | inr holds ↦
                let f = rw holds at e in
                let same = one-reading ((sum_of_groups bytes at (suc more), 7 * suc more), at + suc more) (read, next) f in
                record {
                  count = more;
                  few = grind (arith, nat_tests);
                  within = grind (arith, nat_tests);
                  before = λ k below. rw (get_or-drop at bytes k 0) at (continued-each (drop at bytes) k below);
                  last = rw (get_or-drop at bytes more 0) at (continued-last (drop at bytes));
                  is_read = rw add-one (ap (λ r. r.0) same);
                  is_next = (let place = ap (λ r. r.1) same in omega arith);
                }
          ]
    ]

sum-same : (xs ys : List ℕ) (a b n : ℕ) → ((k : ℕ) → k < n → get_or xs (a + k) 0 ≡ get_or ys (b + k) 0)
    → sum_of_groups xs a n ≡ sum_of_groups ys b n
sum-same xs ys a b zero same = refl
sum-same xs ys a b (suc n) same =
    rw (sum-same xs ys a b n (λ k below. same k (omega arith)), same n (omega arith)) refl

-- the same bytes at another place are the same groups
groups-moved : (xs ys : List ℕ) (a b : ℕ) (read : ℕ × ℕ) (next n : ℕ) → Groups xs a read next → next ≡ a + n
    → ((k : ℕ) → k < n → get_or xs (a + k) 0 ≡ get_or ys (b + k) 0) → b + n ≤ length ys
    → groups_at ys b ≡ Ok (read, b + n)
groups-moved xs ys a b read next n g is same within =
    let ends = g.is_next in
    let size : n ≡ g.count + 1 = omega arith in
    let before = λ (k : ℕ) (below : k < g.count). subst (λ byte. 128 ≤ byte) (same k (omega arith)) (g.before k below) in
    let last = subst (λ byte. byte < 128) (same g.count (omega arith)) g.last in
    let sum = sum-same xs ys a b (g.count + 1) (λ k below. same k (omega arith)) in
    let there =
    groups-last ys b g.count before g.few (omega arith) last (sum_of_groups xs a (g.count + 1)) (7 * (g.count + 1))
    (b + n) sum refl (omega arith) in
    sym there ∙ ap (λ r. Ok (r, b + n)) g.is_read

-- what a LEB128 number's bytes are: those from its place up to the next one
leb-front : (bytes : List ℕ) (at : ℕ) (read : ℕ × ℕ) (next : ℕ) → Groups bytes at read next
    → (front : List ℕ) × Fronts front bytes at next × (groups_at front 0 ≡ Ok (read, length front))
leb-front bytes at read next g =
    let n = g.count + 1 in
    let ends : next ≡ at + n = (let e = g.is_next in omega arith) in
    let inside : at + n ≤ length bytes = (let w = g.within in omega arith) in
    let b = between bytes at n inside in
    let front = take n (drop at bytes) in
    let size : 0 + n ≡ length front = (let e = b.0 in omega arith) in
    let moved =
    groups-moved bytes front at 0 read next n g ends
    (λ k below. same-bytes front (drop (at + n) bytes) bytes at b.1 k (omega (arith, b.0))
    ∙ (let same : k ≡ 0 + k = omega arith in ap (λ j. get_or front j 0) same)) (omega (arith, b.0)) in (
      front,
      (b.1 ∙ ap (λ k. front ++ drop k bytes) (sym ends), ends ∙ ap (λ k. at + k) (sym b.0)),
      moved ∙ ap (λ k. Ok (read, k)) size,
    )

leb-back : (front more bytes : List ℕ) (at : ℕ) (read : ℕ × ℕ) → groups_at front 0 ≡ Ok (read, length front)
    → drop at bytes ≡ front ++ more → groups_at bytes at ≡ Ok (read, at + length front)
leb-back front more bytes at read is there =
    let g = groups-of front 0 read (length front) is in
    let some : 0 < length front = (let e = g.is_next in omega arith) in
    groups-moved front bytes 0 at read (length front) (length front) g (omega arith)
    (λ k below. (let same : 0 + k ≡ k = omega arith in ap (λ j. get_or front j 0) same)
    ∙ sym (same-bytes front more bytes at there k below)) (fits front more bytes at there some)

uleb-front : (bytes : List ℕ) (at : ℕ) (read : ℕ × ℕ) → uleb_at bytes at ≡ Ok read
    → (front : List ℕ) × Fronts front bytes at read.1 × (uleb_at front 0 ≡ Ok (read.0, length front))
unfolding uleb_at
uleb-front bytes at read is =
    let g = bind_ok (groups_at bytes at) _ read is in
    let f = leb-front bytes at g.0.0 g.0.1 (groups-of bytes at g.0.0 g.0.1 g.1) in
    elim (cases_Bool (ltb g.0.0.0 (2 ^ 64))) [
      | inl small ↦
          let same = one-reading (g.0.0.0, g.0.1) read (rw small at g.2) in
          subst (λ (r : ℕ × ℕ). (front : List ℕ) × Fronts front bytes at r.1
          × (uleb_at front 0 ≡ Ok (r.0, length front))) same (f.0, f.1, rw f.2 (rw small refl))
      | inr big ↦ (let e = rw big at g.2 in cc)
    ]

uleb-back : (front more bytes : List ℕ) (at number : ℕ) → uleb_at front 0 ≡ Ok (number, length front)
    → drop at bytes ≡ front ++ more → uleb_at bytes at ≡ Ok (number, at + length front)
unfolding uleb_at
uleb-back front more bytes at number is there =
    let g = bind_ok (groups_at front 0) _ (number, length front) is in
    elim (cases_Bool (ltb g.0.0.0 (2 ^ 64))) [
      | inl small ↦
          let same = one-reading (g.0.0.0, g.0.1) (number, length front) (rw small at g.2) in
          let read : groups_at front 0 ≡ Ok (g.0.0, length front) = g.1 ∙ ap (λ k. Ok (g.0.0, k)) (ap (λ r. r.1) same) in
          rw (leb-back front more bytes at g.0.0 read there)
          (rw small (ap (λ n. Ok (n, at + length front)) (ap (λ r. r.0) same)))
      | inr big ↦ (let e = rw big at g.2 in cc)
    ]

sleb-front : (bytes : List ℕ) (at : ℕ) (read : ℤ × ℕ) → sleb_at bytes at ≡ Ok read
    → (front : List ℕ) × Fronts front bytes at read.1 × (sleb_at front 0 ≡ Ok (read.0, length front))
unfolding sleb_at
sleb-front bytes at read is =
    let g = bind_ok (groups_at bytes at) _ read is in
    let f = leb-front bytes at g.0.0 g.0.1 (groups-of bytes at g.0.0 g.0.1 g.1) in
    elim (cases_Bool (fits_i64 (with_sign g.0.0.0 g.0.0.1))) [
      | inl small ↦
          let same = one-reading (with_sign g.0.0.0 g.0.0.1, g.0.1) read (rw small at g.2) in
          subst (λ (r : ℤ × ℕ). (front : List ℕ) × Fronts front bytes at r.1
          × (sleb_at front 0 ≡ Ok (r.0, length front))) same (f.0, f.1, rw f.2 (rw small refl))
      | inr big ↦ (let e = rw big at g.2 in cc)
    ]

sleb-back : (front more bytes : List ℕ) (at : ℕ) (number : ℤ) → sleb_at front 0 ≡ Ok (number, length front)
    → drop at bytes ≡ front ++ more → sleb_at bytes at ≡ Ok (number, at + length front)
unfolding sleb_at
sleb-back front more bytes at number is there =
    let g = bind_ok (groups_at front 0) _ (number, length front) is in
    elim (cases_Bool (fits_i64 (with_sign g.0.0.0 g.0.0.1))) [
      | inl small ↦
          let same = one-reading (with_sign g.0.0.0 g.0.0.1, g.0.1) (number, length front) (rw small at g.2) in
          let read : groups_at front 0 ≡ Ok (g.0.0, length front) = g.1 ∙ ap (λ k. Ok (g.0.0, k)) (ap (λ r. r.1) same) in
          rw (leb-back front more bytes at g.0.0 read there)
          (rw small (ap (λ n. Ok (n, at + length front)) (ap (λ r. r.0) same)))
      | inr big ↦ (let e = rw big at g.2 in cc)
    ]

-- ---- a number of a fixed size

sized-front : (number size : ℕ) (bytes : List ℕ) (at : ℕ) (read : ℕ × ℕ) → sized_at number size bytes at ≡ Ok read
    → (front : List ℕ) × Fronts front bytes at read.1 × (length front ≡ size)
sized-front number size bytes at read is =
    elim (cases_Bool (leb (at + size) (length bytes))) [
      | inl holds ↦
          let ends : at + size ≡ read.1 = ap (λ r. r.1) (one-reading (number, at + size) read (rw holds at is)) in
          let inside : at + size ≤ length bytes = grind (arith, nat_tests) in
          let b = between bytes at size inside in
          let front = take size (drop at bytes) in
          (front, (b.1 ∙ ap (λ k. front ++ drop k bytes) ends, sym ends ∙ ap (λ k. at + k) (sym b.0)), b.0)
      | inr ends ↦ (let e = rw ends at is in cc)
    ]

sized-back : (number size : ℕ) (front more bytes : List ℕ) (at : ℕ) → drop at bytes ≡ front ++ more
    → length front ≡ size → 0 < size → sized_at number size bytes at ≡ Ok (number, at + length front)
sized-back number size front more bytes at there is some =
    let inside = fits front more bytes at there (omega (arith, is)) in
    rw (le-leb (at + size) (length bytes) (omega (arith, is))) (ap (λ k. Ok (number, at + k)) (sym is))

-- ---- a pointer

three-of : (a b c : Bool) → (a || b || c) ≡ true → (a ≡ true) ⊎ ((b ≡ true) ⊎ (c ≡ true))
three-of true b c is = inl refl
three-of false true c is = inr (inl refl)
three-of false false true is = inr (inr refl)
three-of false false false is = cc

-- one of three numbers
one-of : (n x y z : ℕ) → ((n == x) || (n == y) || (n == z)) ≡ true → (n ≡ x) ⊎ ((n ≡ y) ⊎ (n ≡ z))
one-of n x y z is =
    elim (three-of (n == x) (n == y) (n == z) is) [
      | inl e ↦ inl (eqb-true n x e)
      | inr (inl e) ↦ inr (inl (eqb-true n y e))
      | inr (inr e) ↦ inr (inr (eqb-true n z e))
    ]

-- what a reading's bytes are, if they are a pointer
abbrev Pointed : ℕ → List ℕ → ℕ → ℕ → Type 0
Pointed encoding bytes at next = (front : List ℕ) × Fronts front bytes at next × IsPointer encoding front

-- a reading that is put into another form ends where it did
mapped-next : {A B : Type 0} (reading : Result (A × ℕ) ReadError) (f : A → B) (read : B × ℕ)
    → (reading >>= λ r. Ok (f r.0, r.1)) ≡ Ok read → (x : A × ℕ) × (reading ≡ Ok x) × (x.1 ≡ read.1)
mapped-next reading f read is =
    let x = bind_ok reading _ read is in
    (x.0, x.1, ap (λ r. r.1) (one-reading (f x.0.0, x.0.1) read x.2))

u16-front : (bytes : List ℕ) (at : ℕ) (read : ℕ × ℕ) → u16_at bytes at ≡ Ok read
    → (front : List ℕ) × Fronts front bytes at read.1 × (length front ≡ 2)
unfolding u16_at
u16-front bytes at read is = sized-front (le2 bytes at) 2 bytes at read is

u32-front : (bytes : List ℕ) (at : ℕ) (read : ℕ × ℕ) → u32_at bytes at ≡ Ok read
    → (front : List ℕ) × Fronts front bytes at read.1 × (length front ≡ 4)
unfolding u32_at
u32-front bytes at read is = sized-front (le4 bytes at) 4 bytes at read is

u64-front : (bytes : List ℕ) (at : ℕ) (read : ℕ × ℕ) → u64_at bytes at ≡ Ok read
    → (front : List ℕ) × Fronts front bytes at read.1 × (length front ≡ 8)
unfolding u64_at
u64-front bytes at read is = sized-front (le8 bytes at) 8 bytes at read is

-- bytes that end where another reading of them does
pointed-to : (encoding : ℕ) (bytes : List ℕ) (at next other : ℕ) → next ≡ other → Pointed encoding bytes at next
    → Pointed encoding bytes at other
pointed-to encoding bytes at next other same p = subst (Pointed encoding bytes at) same p

raw-front : (encoding : ℕ) (bytes : List ℕ) (at : ℕ) (read : ℕ × ℕ) → raw_at (encoding % 16) bytes at ≡ Ok read
    → Pointed encoding bytes at read.1
unfolding raw_at
raw-front encoding bytes at read is =
    let format = encoding % 16 in
    elim (cases_Bool ((format == 0) || (format == 4) || (format == 12))) [
      | inl eight ↦
          let f = u64-front bytes at read (rw eight at is) in
          (f.0, f.1, of_eight (one-of format 0 4 12 eight) f.2)
      | inr e0 ↦ (let i0 = rw e0 at is in elim (cases_Bool (format == 1)) [
        | inl one ↦
            let f = uleb-front bytes at read (rw one at i0) in
            (f.0, f.1, of_uleb (eqb-true format 1 one) (read.0, f.2))
        | inr e1 ↦ (let i1 = rw e1 at i0 in elim (cases_Bool (format == 2)) [
          | inl two ↦
              let f = u16-front bytes at read (rw two at i1) in
              (f.0, f.1, of_two (inl (eqb-true format 2 two)) f.2)
          | inr e2 ↦ (let i2 = rw e2 at i1 in elim (cases_Bool (format == 3)) [
            | inl four ↦
                let f = u32-front bytes at read (rw four at i2) in
                (f.0, f.1, of_four (inl (eqb-true format 3 four)) f.2)
            | inr e3 ↦ (let i3 = rw e3 at i2 in elim (cases_Bool (format == 9)) [
              | inl nine ↦
                  let x = mapped-next (sleb_at bytes at) (λ n. cast_unsigned w64 n) read (rw nine at i3) in
                  let f = sleb-front bytes at x.0 x.1 in
                  pointed-to encoding bytes at x.0.1 read.1 x.2
                  (f.0, f.1, of_sleb (eqb-true format 9 nine) (x.0.0, f.2))
              | inr e9 ↦ (let i9 = rw e9 at i3 in elim (cases_Bool (format == 10)) [
                | inl ten ↦
                    let x = mapped-next (u16_at bytes at) (λ n. sign_extended 16 n) read (rw ten at i9) in
                    let f = u16-front bytes at x.0 x.1 in
                    pointed-to encoding bytes at x.0.1 read.1 x.2
                    (f.0, f.1, of_two (inr (eqb-true format 10 ten)) f.2)
                | inr e10 ↦ (let i10 = rw e10 at i9 in elim (cases_Bool (format == 11)) [
                  | inl eleven ↦
                      let x = mapped-next (u32_at bytes at) (λ n. sign_extended 32 n) read (rw eleven at i10) in
                      let f = u32-front bytes at x.0 x.1 in
                      pointed-to encoding bytes at x.0.1 read.1 x.2
                      (f.0, f.1, of_four (inr (eqb-true format 11 eleven)) f.2)
                  | inr e11 ↦ (let i11 = rw e11 at i10 in cc)
                ])
              ])
            ])
          ])
        ])
      ])
    ]

-- the bytes of a pointer are read, whatever its value
abbrev IsRead : ℕ → List ℕ → ℕ → ℕ → Type 0
IsRead format bytes at next = (value : ℕ) × (raw_at format bytes at ≡ Ok (value, next))

module _ (front more bytes : List ℕ) (at : ℕ) (there : drop at bytes ≡ front ++ more) where
  u16-back : length front ≡ 2 → u16_at bytes at ≡ Ok (le2 bytes at, at + length front)
  unfolding u16_at
  u16-back size = sized-back (le2 bytes at) 2 front more bytes at there size (omega arith)

  u32-back : length front ≡ 4 → u32_at bytes at ≡ Ok (le4 bytes at, at + length front)
  unfolding u32_at
  u32-back size = sized-back (le4 bytes at) 4 front more bytes at there size (omega arith)

  u64-back : length front ≡ 8 → u64_at bytes at ≡ Ok (le8 bytes at, at + length front)
  unfolding u64_at
  u64-back size = sized-back (le8 bytes at) 8 front more bytes at there size (omega arith)

  raw-by : (format : ℕ) (n : ℕ) → format ≡ n → IsRead n bytes at (at + length front)
      → IsRead format bytes at (at + length front)
  raw-by format n is read = subst (λ f. IsRead f bytes at (at + length front)) (sym is) read

  raw-back : (encoding : ℕ) → IsPointer encoding front → IsRead (encoding % 16) bytes at (at + length front)
  unfolding raw_at
  raw-back encoding (of_two (inl f) size) = raw-by (encoding % 16) 2 f (le2 bytes at, u16-back size)
  raw-back encoding (of_two (inr f) size) =
      raw-by (encoding % 16) 10 f (sign_extended 16 (le2 bytes at), rw (u16-back size) refl)
  raw-back encoding (of_four (inl f) size) = raw-by (encoding % 16) 3 f (le4 bytes at, u32-back size)
  raw-back encoding (of_four (inr f) size) =
      raw-by (encoding % 16) 11 f (sign_extended 32 (le4 bytes at), rw (u32-back size) refl)
  raw-back encoding (of_eight (inl f) size) = raw-by (encoding % 16) 0 f (le8 bytes at, u64-back size)
  raw-back encoding (of_eight (inr (inl f)) size) = raw-by (encoding % 16) 4 f (le8 bytes at, u64-back size)
  raw-back encoding (of_eight (inr (inr f)) size) = raw-by (encoding % 16) 12 f (le8 bytes at, u64-back size)
  raw-back encoding (of_uleb f leb) =
      raw-by (encoding % 16) 1 f (leb.0, uleb-back front more bytes at leb.0 leb.1 there)
  raw-back encoding (of_sleb f leb) =
      raw-by (encoding % 16) 9 f
      (cast_unsigned w64 leb.0, rw (sleb-back front more bytes at leb.0 leb.1 there) refl)

-- what it counts from
known-base : (bases : SectionBaseAddresses) (at application base : ℕ) → base_of bases at application ≡ Ok base
    → application < 4
known-base bases at application base is =
    elim (cases_lt application 4) [
      | inl few ↦ few
      | inr many ↦
          let n0 : (application == 0) ≡ false = grind (arith, nat_tests) in
          let n1 : (application == 1) ≡ false = grind (arith, nat_tests) in
          let n2 : (application == 2) ≡ false = grind (arith, nat_tests) in
          let n3 : (application == 3) ≡ false = grind (arith, nat_tests) in
          let e = rw n3 at (rw n2 at (rw n1 at (rw n0 at is))) in
          absurd cc
    ]

base-known : (bases : SectionBaseAddresses) (at application : ℕ) → application < 4
    → (base : ℕ) × (base_of bases at application ≡ Ok base)
base-known bases at zero few = (0, refl)
base-known bases at (suc zero) few = ((bases.section + at) % 2 ^ 64, refl)
base-known bases at (suc (suc zero)) few = (bases.text, refl)
base-known bases at (suc (suc (suc zero))) few = (bases.data, refl)
base-known bases at (suc (suc (suc (suc n)))) few = absurd (omega arith)

pointer-front : (bases : SectionBaseAddresses) (encoding : ℕ) (bytes : List ℕ) (at : ℕ) (read : ℕ × ℕ)
    → pointer_at bases encoding bytes at ≡ Ok read → Pointed encoding bytes at read.1 × CountsFromKnown encoding
unfolding pointer_at
pointer-front bases encoding bytes at read is =
    let base = bind_ok (base_of bases at (application_of encoding)) _ read is in
    let raw = bind_ok (raw_at (format_of encoding) bytes at) _ read base.2 in
    let same = ap (λ r. r.1) (one-reading ((base.0 + raw.0.0) % 2 ^ 64, raw.0.1) read raw.2) in (
      pointed-to encoding bytes at raw.0.1 read.1 same (raw-front encoding bytes at raw.0 raw.1),
      known-base bases at (application_of encoding) base.0 base.1,
    )

pointer-back : (bases : SectionBaseAddresses) (encoding : ℕ) (front more bytes : List ℕ) (at : ℕ)
    → CountsFromKnown encoding → IsPointer encoding front → drop at bytes ≡ front ++ more
    → (value : ℕ) × (pointer_at bases encoding bytes at ≡ Ok (value, at + length front))
unfolding pointer_at
pointer-back bases encoding front more bytes at known is there =
    let base = base-known bases at (application_of encoding) known in
    let raw = raw-back front more bytes at there encoding is in
    ((base.0 + raw.0) % 2 ^ 64, rw base.1 (rw raw.1 refl))

-- ---- one letter

byte-front : (bytes : List ℕ) (at : ℕ) (read : ℕ × ℕ) → u8_at bytes at ≡ Ok read
    → Fronts (read.0 ∷ []) bytes at read.1
unfolding u8_at
byte-front bytes at read is =
    elim (cases_Bool (leb (at + 1) (length bytes))) [
      | inl holds ↦
          let same = one-reading (get_or bytes at 0, at + 1) read (rw holds at is) in
          let inside : at < length bytes = grind (arith, nat_tests) in
          subst (λ (r : ℕ × ℕ). Fronts (r.0 ∷ []) bytes at r.1) same (drop_more bytes at 0 inside, refl)
      | inr ends ↦ (let e = rw ends at is in cc)
    ]

byte-back : (byte : ℕ) (more bytes : List ℕ) (at : ℕ) → drop at bytes ≡ byte ∷ more
    → u8_at bytes at ≡ Ok (byte, at + 1)
unfolding u8_at
byte-back byte more bytes at there =
    let is : drop at bytes ≡ (byte ∷ []) ++ more = there in
    let inside : at + 1 ≤ length bytes = fits (byte ∷ []) more bytes at is (omega arith) in
    let same : at + 0 ≡ at = omega arith in
    let value : get_or bytes at 0 ≡ byte =
    ap (λ k. get_or bytes k 0) (sym same) ∙ same-bytes (byte ∷ []) more bytes at is 0 (omega arith) in
    rw (le-leb (at + 1) (length bytes) inside) (ap (λ n. Ok (n, at + 1)) value)

-- what a letter's bytes do to the encoding that holds before it
abbrev Leaves : ℕ → List ℕ → ℕ → ℕ → Type 0
Leaves letter front before now =
    (xs : List ℕ) → last_or (Some before) ((if letter == 82 then front else []) ++ xs) ≡ last_or (Some now) xs

-- a letter that has been read
abbrev Lettering : ℕ → List ℕ → ℕ → ℕ → ℕ × ℕ → Type 0
Lettering letter bytes at before read =
    (front : List ℕ) × Fronts front bytes at read.1 × AreArguments letter front × Leaves letter front before read.0

personality-front : (bases : SectionBaseAddresses) (letter : ℕ) (bytes : List ℕ) (at : ℕ) (read : ℕ × ℕ)
    → letter ≡ 80 → personality_at bases bytes at ≡ Ok read
    → (front : List ℕ) × Fronts front bytes at read.1 × AreArguments letter front
unfolding personality_at
personality-front bases letter bytes at read p is =
    let encoding = bind_ok (u8_at bytes at) _ read is in
    let byte = byte-front bytes at encoding.0 encoding.1 in
    elim (cases_Bool (encoding.0.0 == 255)) [
      | inl without ↦
          let same = ap (λ r. r.1) (one-reading (0, encoding.0.1) read (rw without at encoding.2)) in
          let omitted : encoding.0.0 ∷ [] ≡ 255 ∷ [] = ap (λ n. n ∷ []) (eqb-true encoding.0.0 255 without) in
          (encoding.0.0 ∷ [], subst (Fronts (encoding.0.0 ∷ []) bytes at) same byte, of_p_without p omitted)
      | inr with ↦
          let pointer = pointer-front bases encoding.0.0 bytes encoding.0.1 read (rw with at encoding.2) in
          let front = pointer.0.0 in
          let apart : encoding.0.0 ≢ 255 = (λ e. (let t = eq-eqb encoding.0.0 255 e in absurd cc)) in
          let ends = pointer.0.1.1 in
          let first = byte.1 in (
            encoding.0.0 ∷ front,
            (byte.0 ∙ ap (λ xs. encoding.0.0 ∷ xs) pointer.0.1.0, omega (arith, first, ends)),
            of_p encoding.0.0 front p refl apart pointer.1 pointer.0.2,
          )
    ]

letter-front : (bases : SectionBaseAddresses) (letter : ℕ) (bytes : List ℕ) (at before : ℕ) (read : ℕ × ℕ)
    → letter_at bases letter bytes at before ≡ Ok read → Lettering letter bytes at before read
letter-front bases letter bytes at before read is =
    elim (cases_Bool (letter == 82)) [
      | inl r ↦
          let f = byte-front bytes at read (rw r at is) in
          (read.0 ∷ [], f, of_r read.0 (eqb-true letter 82 r) refl, λ xs. rw r refl)
      | inr no_r ↦ (let is_l = rw no_r at is in
          let kept = λ (front : List ℕ) (same : before ≡ read.0) (xs : List ℕ).
          (let none : ((if letter == 82 then front else []) ++ xs) ≡ xs = rw no_r refl in
          ap (last_or (Some before)) none ∙ ap (λ n. last_or (Some n) xs) same) in
          elim (cases_Bool (letter == 76)) [
            | inl l ↦
                let x = bind_ok (u8_at bytes at) _ read (rw l at is_l) in
                let same = one-reading (before, x.0.1) read x.2 in
                let f = byte-front bytes at x.0 x.1 in (
                  x.0.0 ∷ [],
                  subst (Fronts (x.0.0 ∷ []) bytes at) (ap (λ r. r.1) same) f,
                  of_l x.0.0 (eqb-true letter 76 l) refl,
                  kept (x.0.0 ∷ []) (ap (λ r. r.0) same),
                )
            | inr no_l ↦ (let is_p = rw no_l at is_l in elim (cases_Bool (letter == 80)) [
              | inl p ↦
                  let x = bind_ok (personality_at bases bytes at) _ read (rw p at is_p) in
                  let same = one-reading (before, x.0.1) read x.2 in
                  let f = personality-front bases letter bytes at x.0 (eqb-true letter 80 p) x.1 in
                  (f.0, subst (Fronts f.0 bytes at) (ap (λ r. r.1) same) f.1, f.2, kept f.0 (ap (λ r. r.0) same))
              | inr no_p ↦ (let is_flag = rw no_p at is_p in
                  elim (cases_Bool ((letter == 83) || (letter == 66) || (letter == 71))) [
                    | inl flag ↦
                        let same = one-reading (before, at) read (rw flag at is_flag) in
                        let here : Fronts [] bytes at at = (refl, omega arith) in (
                          [],
                          subst (Fronts [] bytes at) (ap (λ r. r.1) same) here,
                          of_flag (one-of letter 83 66 71 flag) refl,
                          kept [] (ap (λ r. r.0) same),
                        )
                    | inr no_flag ↦ (let e = rw no_flag at is_flag in cc)
                  ])
            ])
          ])
    ]

-- what reading a letter leaves, where its arguments are in front
abbrev IsLetterRead : SectionBaseAddresses → ℕ → List ℕ → List ℕ → ℕ → ℕ → Type 0
IsLetterRead bases letter front bytes at before =
    (now : ℕ) × (letter_at bases letter bytes at before ≡ Ok (now, at + length front)) × Leaves letter front before now

letter-by : (bases : SectionBaseAddresses) (letter n : ℕ) (front bytes : List ℕ) (at before : ℕ) → letter ≡ n
    → IsLetterRead bases n front bytes at before → IsLetterRead bases letter front bytes at before
letter-by bases letter n front bytes at before is read =
    subst (λ m. IsLetterRead bases m front bytes at before) (sym is) read

-- the arguments are in front, under another name
in-front : (front named more bytes : List ℕ) (at : ℕ) → front ≡ named → drop at bytes ≡ front ++ more
    → drop at bytes ≡ named ++ more
in-front front named more bytes at is there = there ∙ ap (λ xs. xs ++ more) is

personality-back : (bases : SectionBaseAddresses) (front more bytes : List ℕ) (at encoding : ℕ) (pointer : List ℕ)
    → front ≡ encoding ∷ pointer → encoding ≢ 255 → CountsFromKnown encoding → IsPointer encoding pointer
    → drop at bytes ≡ front ++ more
    → (value : ℕ) × (personality_at bases bytes at ≡ Ok (value, at + length front))
unfolding personality_at
personality-back bases front more bytes at encoding pointer is apart known are there =
    let named = in-front front (encoding ∷ pointer) more bytes at is there in
    let byte = byte-back encoding (pointer ++ more) bytes at named in
    let rest = after (encoding ∷ []) (pointer ++ more) bytes at named in
    let read = pointer-back bases encoding pointer more bytes (at + 1) known are rest in
    let no : (encoding == 255) ≡ false = grind (arith, nat_tests) in
    let same : at + 1 + length pointer ≡ at + length front = omega (arith, ap length is) in
    (read.0, rw byte (rw no (read.1 ∙ ap (λ k. Ok (read.0, k)) same)))

without-back : (bases : SectionBaseAddresses) (bytes : List ℕ) (at : ℕ) → u8_at bytes at ≡ Ok (255, at + 1)
    → personality_at bases bytes at ≡ Ok (0, at + 1)
unfolding personality_at
without-back bases bytes at byte = rw byte refl

flag-next : (at before : ℕ) (front : List ℕ) → front ≡ []
    → ◌≡◌ {A = Result (ℕ × ℕ) ReadError} (Ok (before, at)) (Ok (before, at + length front))
flag-next at before front is =
    let same : at ≡ at + length front = omega (arith, ap length is) in ap (λ k. Ok (before, k)) same

letter-back : (bases : SectionBaseAddresses) (letter : ℕ) (front more bytes : List ℕ) (at before : ℕ)
    → AreArguments letter front → drop at bytes ≡ front ++ more → IsLetterRead bases letter front bytes at before
letter-back bases letter front more bytes at before (of_r encoding l is) there =
    let byte = byte-back encoding more bytes at (in-front front (encoding ∷ []) more bytes at is there) in
    letter-by bases letter 82 front bytes at before l (
      encoding,
      byte ∙ ap (λ xs. Ok (encoding, at + length xs)) (sym is),
      λ xs. ap (λ ys. last_or (Some before) (ys ++ xs)) is,
    )
letter-back bases letter front more bytes at before (of_l encoding l is) there =
    let byte = byte-back encoding more bytes at (in-front front (encoding ∷ []) more bytes at is there) in
    letter-by bases letter 76 front bytes at before l
    (before, rw byte (ap (λ xs. Ok (before, at + length xs)) (sym is)), λ xs. refl)
letter-back bases letter front more bytes at before (of_p encoding pointer l is apart known are) there =
    let read = personality-back bases front more bytes at encoding pointer is apart known are there in
    letter-by bases letter 80 front bytes at before l (before, rw read.1 refl, λ xs. refl)
letter-back bases letter front more bytes at before (of_p_without l is) there =
    let byte = byte-back 255 more bytes at (in-front front (255 ∷ []) more bytes at is there) in
    let read = without-back bases bytes at byte in
    letter-by bases letter 80 front bytes at before l
    (before, rw read (ap (λ xs. Ok (before, at + length xs)) (sym is)), λ xs. refl)
letter-back bases letter front more bytes at before (of_flag (inl l) is) there =
    letter-by bases letter 83 front bytes at before l (before, flag-next at before front is, λ xs. refl)
letter-back bases letter front more bytes at before (of_flag (inr (inl l)) is) there =
    letter-by bases letter 66 front bytes at before l (before, flag-next at before front is, λ xs. refl)
letter-back bases letter front more bytes at before (of_flag (inr (inr l)) is) there =
    letter-by bases letter 71 front bytes at before l (before, flag-next at before front is, λ xs. refl)

-- ---- all letters

-- the arguments of letters that are read from a place on
record Argued (bytes letters : List ℕ) (at before encoding : ℕ) : Type 0 where
  pub arguments : List Lettered
  pub next : ℕ
  pub are_letters : map (λ (lettered : Lettered). lettered.0) arguments ≡ letters
  pub are_data : drop at bytes ≡ flat_map (λ (lettered : Lettered). lettered.1) arguments ++ drop next bytes
  pub each : AllByRecursion (λ (lettered : Lettered). AreArguments lettered.0 lettered.1) arguments
  pub is_encoding : last_or (Some before) (encodings_of arguments) ≡ Some encoding

one-number : (a b : ℕ) → ◌≡◌ {A = Result ℕ ReadError} (Ok a) (Ok b) → a ≡ b
one-number a b is = cc

letters-front : (bases : SectionBaseAddresses) (letters bytes : List ℕ) (at before encoding : ℕ)
    → letters_at bases letters bytes at before ≡ Ok encoding → Argued bytes letters at before encoding
letters-front bases [] bytes at before encoding is = record {
  arguments = [];
  next = at;
  are_letters = refl;
  are_data = refl;
  each = tt;
  is_encoding = ap Some (one-number before encoding is);
}
letters-front bases (letter ∷ letters) bytes at before encoding is =
    let read = bind_ok (letter_at bases letter bytes at before) _ encoding is in
    let first = letter-front bases letter bytes at before read.0 read.1 in
    let rest = letters-front bases letters bytes read.0.1 read.0.0 encoding read.2 in
    record {
      arguments = (letter, first.0) ∷ rest.arguments;
      next = rest.next;
      are_letters = ap (λ ls. letter ∷ ls) rest.are_letters;
      are_data =
          first.1.0 ∙ ap (λ xs. first.0 ++ xs) rest.are_data
          ∙ sym (append_assoc first.0 (flat_map (λ (lettered : Lettered). lettered.1) rest.arguments)
          (drop rest.next bytes));
      each = (first.2, rest.each);
      is_encoding = first.3 (encodings_of rest.arguments) ∙ rest.is_encoding;
    }

some-number : (a b : ℕ) → Some a ≡ Some b → a ≡ b
some-number a b is = cc

letters-back : (bases : SectionBaseAddresses) (arguments : List Lettered) (more bytes : List ℕ) (at before encoding : ℕ)
    → drop at bytes ≡ flat_map (λ (lettered : Lettered). lettered.1) arguments ++ more
    → AllByRecursion (λ (lettered : Lettered). AreArguments lettered.0 lettered.1) arguments
    → last_or (Some before) (encodings_of arguments) ≡ Some encoding
    → letters_at bases (map (λ (lettered : Lettered). lettered.0) arguments) bytes at before ≡ Ok encoding
letters-back bases [] more bytes at before encoding there each is = ap Ok (some-number before encoding is)
letters-back bases (first ∷ arguments) more bytes at before encoding there each is =
    let others = flat_map (λ (lettered : Lettered). lettered.1) arguments in
    let in_order = there ∙ append_assoc first.1 others more in
    let read = letter-back bases first.0 first.1 (others ++ more) bytes at before each.0 in_order in
    rw read.1
    (letters-back bases arguments more bytes (at + length first.1) read.0 encoding
    (after first.1 (others ++ more) bytes at in_order) each.1 (sym (read.2 (encodings_of arguments)) ∙ is))

-- ---- the augmentation

-- the bytes between two places, as those up to the second from the first on
range-is : (start size : ℕ) (entry : List ℕ) → slice_range entry start (start + size) ≡ drop start (take (start + size) entry)
range-is start size entry =
    let same : start + size - start ≡ size = omega arith in
    ap (λ n. take n (drop start entry)) same ∙ sym (drop-take start size entry)

one-augmentation : (a b : Augmentation) → ◌≡◌ {A = Result Augmentation ReadError} (Ok a) (Ok b) → a ≡ b
one-augmentation a b is = cc

data-means : (bases : SectionBaseAddresses) (letters entry : List ℕ) (at : ℕ) (augmentation : Augmentation)
    → augmentation_data bases letters entry at ≡ Ok augmentation → HasData letters entry at augmentation
unfolding augmentation_data counted_at
data-means bases letters entry at augmentation is =
    let place = bind_ok (counted_at entry at) _ augmentation is in
    let count = bind_ok (uleb_at entry at) _ place.0 place.1 in
    elim (cases_Bool (leb (count.0.1 + count.0.0) (length entry))) [
      | inl holds ↦
          let start = count.0.1 in
          let size = count.0.0 in
          let places = one-reading (start, start + size) place.0 (rw holds at count.2) in
          let end : place.0.1 ≡ start + size = sym (ap (λ p. p.1) places) in
          let first : place.0.0 ≡ start = sym (ap (λ p. p.0) places) in
          let inside : start + size ≤ length entry = grind (arith, nat_tests) in
          let encoding = bind_ok (letters_at bases letters (take place.0.1 entry) place.0.0 0) _ augmentation place.2 in
          let read : letters_at bases letters (take (start + size) entry) start 0 ≡ Ok encoding.0 =
          ap (λ e. letters_at bases letters (take e entry) start 0) (sym end)
          ∙ ap (λ a. letters_at bases letters (take place.0.1 entry) a 0) (sym first) ∙ encoding.1 in
          let told = letters-front bases letters (take (start + size) entry) start 0 encoding.0 read in
          let made : Augmentation = record { encoding = encoding.0; has_data = true; after_data = place.0.1 } in
          let all : HasData letters entry at made = record {
            size = size;
            start = start;
            is_size = count.1;
            held = inside;
            says = record {
              arguments = told.arguments;
              more = drop told.next (take (start + size) entry);
              are_letters = told.are_letters;
              are_data = sym told.are_data ∙ sym (range-is start size entry);
              each = told.each;
              is_encoding = told.is_encoding;
            };
            ends = end;
            has_data = refl;
          } in
          subst (HasData letters entry at) (one-augmentation made augmentation encoding.2) all
      | inr ends ↦ (let e = rw ends at count.2 in cc)
    ]

means-data : (bases : SectionBaseAddresses) (letters entry : List ℕ) (at : ℕ) (augmentation : Augmentation)
    → HasData letters entry at augmentation → augmentation_data bases letters entry at ≡ Ok augmentation
unfolding augmentation_data counted_at
means-data bases letters entry at augmentation h =
    let says = h.says in
    let holds = le-leb (h.start + h.size) (length entry) h.held in
    let there = sym (range-is h.start h.size entry) ∙ sym says.are_data in
    let read =
    ap (λ ls. letters_at bases ls (take (h.start + h.size) entry) h.start 0) (sym says.are_letters)
    ∙ letters-back bases says.arguments says.more (take (h.start + h.size) entry) h.start 0 augmentation.encoding
    there says.each says.is_encoding in
    rw h.is_size (rw holds (rw read
    (ap (λ n. Ok (record augmentation { has_data = true; after_data = n })) (sym h.ends)
    ∙ ap (λ b. Ok (record augmentation { has_data = b })) (sym h.has_data))))

-- an augmentation that is read is what its text says, and what a text says is read
pub augmentation-means :
    (bases : SectionBaseAddresses) (letters entry : List ℕ) (at : ℕ) (augmentation : Augmentation)
    → augmentation_at bases letters entry at ≡ Ok augmentation → HasAugmentation letters entry at augmentation
augmentation-means bases [] entry at augmentation is =
    let made : Augmentation = record { encoding = 0; has_data = false; after_data = at } in
    let all : HasNoData at made = record { absolute = refl; ends = refl; has_data = refl } in
    subst (HasNoData at) (one-augmentation made augmentation is) all
augmentation-means bases (first ∷ letters) entry at augmentation is =
    elim (cases_Bool (first == 122)) [
      | inl z ↦ (eqb-true first 122 z, data-means bases letters entry at augmentation (rw z at is))
      | inr other ↦ (let e = rw other at is in cc)
    ]

pub means-augmentation :
    (bases : SectionBaseAddresses) (letters entry : List ℕ) (at : ℕ) (augmentation : Augmentation)
    → HasAugmentation letters entry at augmentation → augmentation_at bases letters entry at ≡ Ok augmentation
means-augmentation bases [] entry at augmentation h =
    let made : ℕ → ℕ → Bool → Augmentation = λ e n b. record { encoding = e; has_data = b; after_data = n } in
    ap Ok (ap (λ e. made e at false) (sym h.absolute) ∙ ap (λ n. made augmentation.encoding n false) (sym h.ends)
    ∙ ap (λ b. made augmentation.encoding augmentation.after_data b) (sym h.has_data))
means-augmentation bases (first ∷ letters) entry at augmentation h =
    rw (eq-eqb first 122 h.0) (means-data bases letters entry at augmentation h.1)
