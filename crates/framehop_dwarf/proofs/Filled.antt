-- The table that is filled by rank has the sorted pairs from left to right.
use Rattle.std.proofs.Common.{◌≡◌, ◌≢◌, ℕ, zero, suc, ◌+◌, ◌-◌, ◌*◌, ◌/◌, ◌^◌, ◌<◌, ◌≤◌, List, [], ◌∷◌, ◌++◌, length, get_or, take, length-append, refl, ap, sym, subst, ◌∙◌, arith, inl, inr, append_assoc}
use Rattle.std.specs.Prelude.{min}
use Rattle.std.proofs.lemmas.Bool.{lt-leb, le-leb, cases_lt}
use Rattle.std.proofs.lemmas.List.{append-nil, take_all, take_more, get_or_append_left, get_or_push}
use Rattle.std.proofs.lemmas.Nat.{pow_pos}
use Rattle.std.proofs.Math.Nat.{pow-suc, le-mul_of_pos_right, pow-le-pow_right, mul-le-mul_left, mul-le-mul_right}
use Rattle.framehop_dwarf.specs.Tree.{in_order, left_to_right}

-- how many places of a tree lie before that of a number in the full tree
abbrev pub rank : ℕ → ℕ → ℕ
rank last x = x / 2 + min ((x + 1) / 2) last

-- each place has the pair of its rank. The place's level has steps of 2 ^ (h + 1) in the full tree
pub record IsFilled (table sorted : List (ℕ × ℕ)) (half : ℕ) : Type 0 where
  pub same : length table ≡ length sorted
  pub low : half ≤ length table
  pub high : length table < 2 * half
  pub each : (i h f : ℕ) → i < length table → (i + 1) * 2 ^ suc h ≡ 2 * half + f → f + 2 ^ suc h ≤ 2 * half
      → get_or table i (0, 0) ≡ get_or sorted (rank (length sorted + 1 - half) (f + 2 ^ h - 1)) (0, 0)

-- past the end nothing stands
pub in_order-past : (table : List (ℕ × ℕ)) (levels at : ℕ) → length table ≤ at → in_order table levels at ≡ []
in_order-past table zero at past = refl
in_order-past table (suc levels) at past = rw (le-leb (length table) at past) refl

rank-inner : (half len i q f : ℕ) → half ≤ len → len < 2 * half → i < len → 0 < q → (i + 1) * (q * 2 * 2) ≡ 2 * half + f
    → rank (len + 1 - half) (f + q * 2) ≡ rank (len + 1 - half) (f + q * 2 - 1) + 1
rank-inner half len i q f low high below some e =
    let m = (i + 1) * q in
    let e' : 4 * m ≡ 2 * half + f = omega (arith, e) in
    omega arith

rank-last : (half len i f : ℕ) → half ≤ len → len < 2 * half → i < len → (i + 1) * 2 ≡ 2 * half + f
    → rank (len + 1 - half) (f + 1) ≡ rank (len + 1 - half) f + 1
rank-last half len i f low high below e = omega arith

rank-absent : (half len i f : ℕ) → half ≤ len → len < 2 * half → len ≤ i → (i + 1) * 2 ≡ 2 * half + f
    → rank (len + 1 - half) (f + 1) ≡ rank (len + 1 - half) f
rank-absent half len i f low high below e = omega arith

-- a place above the last level is there
inner-there : (half len i q f : ℕ) → half ≤ len → 0 < q → (i + 1) * (q * 2 * 2) ≡ 2 * half + f → f + q * 2 * 2 ≤ 2 * half → i < len
inner-there half len i q f low some e top =
    let m = (i + 1) * q in
    let e' : 4 * m ≡ 2 * half + f = omega (arith, e) in
    let g : i + 1 ≤ (i + 1) * q = le-mul_of_pos_right (i + 1) some in
    omega arith

pub below-pow : (k : ℕ) → k < 2 ^ k
below-pow zero = omega arith
below-pow (suc k) = let r = below-pow k in rw (pow-suc 2 k) (omega arith)

rank-step : (half len i h f : ℕ) → half ≤ len → len < 2 * half → i < len → (i + 1) * 2 ^ suc h ≡ 2 * half + f
    → rank (len + 1 - half) (f + 2 ^ h) ≡ rank (len + 1 - half) (f + 2 ^ h - 1) + 1
rank-step half len i zero f low high below e =
    let same : f + 2 ^ zero - 1 ≡ f = omega arith in
    let more : f + 2 ^ zero ≡ f + 1 = omega arith in
    let e' : (i + 1) * 2 ≡ 2 * half + f = omega (arith, e) in
    rw (same, more) (rank-last half len i f low high below e')
rank-step half len i (suc h) f low high below e =
    let e' = rw (pow-suc 2 (suc h), pow-suc 2 h) at e in
    rw (pow-suc 2 h) (rank-inner half len i (2 ^ h) f low high below (pow_pos h) e')

rank-missing : (half len i h f : ℕ) → half ≤ len → len < 2 * half → len ≤ i → (i + 1) * 2 ^ suc h ≡ 2 * half + f → f + 2 ^ suc h ≤ 2 * half
    → rank (len + 1 - half) f ≡ rank (len + 1 - half) (f + 2 ^ suc h - 1)
rank-missing half len i zero f low high past e top =
    let more : f + 2 ^ suc zero - 1 ≡ f + 1 = omega arith in
    let e' : (i + 1) * 2 ≡ 2 * half + f = omega (arith, e) in
    rw more (sym (rank-absent half len i f low high past e'))
rank-missing half len i (suc h) f low high past e top =
    let e' = rw (pow-suc 2 (suc h), pow-suc 2 h) at e in
    let top' = rw (pow-suc 2 (suc h), pow-suc 2 h) at top in
    let there = inner-there half len i (2 ^ h) f low (pow_pos h) e' top' in
    absurd (omega arith)

left-child : (i h t : ℕ) → (i + 1) * 2 ^ suc h ≡ t → (2 * i + 1 + 1) * 2 ^ h ≡ t
left-child i h t e = let e' = rw (pow-suc 2 h) at e in omega (arith, e')

right-child : (i h t : ℕ) → (i + 1) * 2 ^ suc h ≡ t → (2 * i + 2 + 1) * 2 ^ h ≡ t + 2 ^ h
right-child i h t e = let e' = rw (pow-suc 2 h) at e in omega (arith, e')

module _ (table sorted : List (ℕ × ℕ)) (half : ℕ) (t : IsFilled table sorted half) where
  -- one more of the sorted pairs
  one-more : (k : ℕ) (rest : List (ℕ × ℕ)) → k < length sorted → take k sorted ++ (get_or sorted k (0, 0) ∷ rest) ≡ take (k + 1) sorted ++ rest
  one-more k rest below =
      rw (take_more sorted k (0, 0) below, append_assoc) refl

  rank-below : (x : ℕ) → rank (length sorted + 1 - half) x + 1 ≡ rank (length sorted + 1 - half) (x + 1) → x + 1 < 2 * half → rank (length sorted + 1 - half) x < length sorted
  rank-below x e below = let s = t.same in let l = t.low in let h = t.high in omega arith

  -- what stands at a place and under it continues the sorted pairs
  continues : (h levels i f : ℕ) → h ≤ levels → (i + 1) * 2 ^ h ≡ 2 * half + f → f + 2 ^ h ≤ 2 * half
      → take (rank (length sorted + 1 - half) f) sorted ++ in_order table levels i ≡ take (rank (length sorted + 1 - half) (f + 2 ^ h - 1)) sorted
  continues zero levels i f deep e top =
      let s = t.same in let l = t.low in let hi = t.high in
      let past : length table ≤ i = omega arith in
      let same : f + 2 ^ zero - 1 ≡ f = omega arith in
      rw (in_order-past table levels i past, same) (append-nil (take (rank (length sorted + 1 - half) f) sorted))
  continues (suc h) zero i f deep e top = absurd (omega arith)
  continues (suc h) (suc levels) i f deep e top =
      let s = t.same in let l = t.low in let hi = t.high in
      let last = length sorted + 1 - half in
      let p = 2 ^ h in
      let twice : 2 ^ suc h ≡ p + p = rw (pow-suc 2 h) (omega arith) in
      let pos = pow_pos h in
      elim (cases_lt i (length table)) as (λ _. take (rank last f) sorted ++ in_order table (suc levels) i ≡ take (rank last (f + 2 ^ suc h - 1)) sorted) [
        | inl there ↦
            (let left = continues h levels (2 * i + 1) f (omega arith) (left-child i h (2 * half + f) e) (omega arith) in
            let e2 : (2 * i + 2 + 1) * p ≡ 2 * half + (f + p) = omega (arith, right-child i h (2 * half + f) e) in
            let right = continues h levels (2 * i + 2) (f + p) (omega arith) e2 (omega arith) in
            let up : rank last (f + p) ≡ rank last (f + p - 1) + 1 = rank-step half (length sorted) i h f (omega arith) (omega arith) (omega arith) e in
            let below : rank last (f + p - 1) < length sorted = omega arith in
            let mine : get_or table i (0, 0) ≡ get_or sorted (rank last (f + p - 1)) (0, 0) = t.each i h f there e top in
            let ends : f + 2 ^ suc h - 1 ≡ f + p + p - 1 = omega arith in
            let L = in_order table levels (2 * i + 1) in
            let R = in_order table levels (2 * i + 2) in
            let one : take (rank last f) sorted ++ (L ++ (get_or table i (0, 0) ∷ R)) ≡ take (rank last (f + p - 1)) sorted ++ (get_or table i (0, 0) ∷ R) =
            sym (append_assoc (take (rank last f) sorted) L (get_or table i (0, 0) ∷ R)) ∙ ap (λ xs. xs ++ (get_or table i (0, 0) ∷ R)) left in
            let two : take (rank last (f + p - 1)) sorted ++ (get_or table i (0, 0) ∷ R) ≡ take (rank last (f + p - 1)) sorted ++ (get_or sorted (rank last (f + p - 1)) (0, 0) ∷ R) =
            ap (λ x. take (rank last (f + p - 1)) sorted ++ (x ∷ R)) mine in
            let three : take (rank last (f + p - 1)) sorted ++ (get_or sorted (rank last (f + p - 1)) (0, 0) ∷ R) ≡ take (rank last (f + p)) sorted ++ R =
            one-more (rank last (f + p - 1)) R below ∙ ap (λ k. take k sorted ++ R) (sym up) in
            rw (lt-leb (length table) i there) (one ∙ two ∙ three ∙ right ∙ ap (λ k. take (rank last k) sorted) (sym ends)))
        | inr past ↦
            rw (le-leb (length table) i past) (append-nil (take (rank last f) sorted) ∙ ap (λ k. take k sorted) (rank-missing half (length sorted) i h f (omega arith) (omega arith) (omega arith) e top))
      ]

  -- the whole tree has the sorted pairs
  pub filled : (h : ℕ) → half ≡ 2 ^ h → left_to_right table ≡ sorted
  filled h is =
      let s = t.same in let l = t.low in let hi = t.high in
      let last = length sorted + 1 - half in
      let twice : 2 ^ suc h ≡ 2 * half = rw (pow-suc 2 h) (omega arith) in
      let deep = below-pow h in
      let all = continues (suc h) (length table) 0 0 (omega arith) (omega arith) (omega arith) in
      let none : rank last 0 ≡ 0 = omega arith in
      let end : rank last (0 + 2 ^ suc h - 1) ≡ length sorted = omega arith in
      ap (λ k. take k sorted ++ in_order table (length table) 0) (sym none) ∙ all ∙ ap (λ k. take k sorted) end ∙ take_all (length sorted) sorted (omega arith)

-- the level of a place, by its width, the steps between its places in the full tree, and the place within it
pub record IsLevel (half width step within place : ℕ) : Type 0 where
  pub exponent : ℕ
  pub power : step ≡ 2 ^ exponent
  pub whole : width * step ≡ half
  pub at : place + 1 ≡ width + within
  pub up_to : within ≤ width

-- the places so far
pub record IsFilledTo (table sorted : List (ℕ × ℕ)) (half place : ℕ) : Type 0 where
  pub so_far : length table ≡ place
  pub each : (i h f : ℕ) → i < place → (i + 1) * 2 ^ suc h ≡ 2 * half + f → f + 2 ^ suc h ≤ 2 * half
      → get_or table i (0, 0) ≡ get_or sorted (rank (length sorted + 1 - half) (f + 2 ^ h - 1)) (0, 0)

not-lower : (m half h k f g : ℕ) → m * 2 ^ suc h ≡ 2 * half + f → m * 2 ^ suc k ≡ 2 * half + g → g + 2 ^ suc k ≤ 2 * half → h < k → ⊥
not-lower m half h k f g e e' top less =
    let more : 2 ^ suc (suc h) ≤ 2 ^ suc k = pow-le-pow_right {n = 2} (omega arith) (omega arith) in
    let more' = rw (pow-suc 2 (suc h)) at (mul-le-mul_left m more) in
    let some = pow_pos (suc k) in
    omega (arith, more', e, e', top)

-- a place has one level
pub one-level : (m half h k f g : ℕ) → m * 2 ^ suc h ≡ 2 * half + f → f + 2 ^ suc h ≤ 2 * half → m * 2 ^ suc k ≡ 2 * half + g → g + 2 ^ suc k ≤ 2 * half → h ≡ k
one-level m half h k f g e top e' top' =
    elim (cases_lt h k) as (λ _. h ≡ k) [
      | inl less ↦ absurd (not-lower m half h k f g e e' top' less)
      | inr not ↦ elim (cases_lt k h) as (λ _. h ≡ k) [
        | inl less ↦ absurd (not-lower m half k h g f e' e top less)
        | inr neither ↦ omega arith
      ]
    ]

pub first-level : (half h : ℕ) → half ≡ 2 ^ h → IsLevel half 1 half 0 0
first-level half h is = record { exponent = h; power = is; whole = omega arith; at = omega arith; up_to = omega arith }

-- after the last place of a level comes the first of the next
pub next-level : (half width step count place : ℕ) → IsLevel half width step width place → place < count → count < 2 * half → IsLevel half (width * 2) (step / 2) 0 place
next-level half width step count place l here high =
    let e : step ≡ 2 ^ l.exponent = l.power in
    deeper l.exponent e
  where
    deeper : (h : ℕ) → step ≡ 2 ^ h → IsLevel half (width * 2) (step / 2) 0 place
    deeper zero e = absurd (let w = l.whole in let a = l.at in let one : step ≡ 1 = omega (arith, e) in let w' = rw one at w in omega arith)
    deeper (suc h) e =
        let e' = rw (pow-suc 2 h) at e in
        let half_step : step / 2 ≡ 2 ^ h = omega (arith, e') in
        let a = l.at in
        let w = rw e' at l.whole in
        record { exponent = h; power = half_step; whole = rw half_step (omega (arith, w)); at = omega arith; up_to = omega arith }

pub next-place : (half width step within place : ℕ) → IsLevel half width step within place → within < width → IsLevel half width step (within + 1) (place + 1)
next-place half width step within place l less =
    let a = l.at in record { exponent = l.exponent; power = l.power; whole = l.whole; at = omega arith; up_to = omega arith }

-- the place's number in the full tree, plus one
pub left-below : (half width step within place : ℕ) → IsLevel half width step within place → within < width → 2 * within * step + 2 * step ≤ 2 * half
left-below half width step within place l less =
    let w = l.whole in
    let g : (within + 1) * step ≤ width * step = mul-le-mul_right step (omega arith) in
    omega arith

pub some-step : (half width step within place : ℕ) → IsLevel half width step within place → 0 < step
some-step half width step within place l = let e = l.power in let g = pow_pos l.exponent in omega arith

-- where the place stands in the full tree
stands : (half width step within place : ℕ) → (l : IsLevel half width step within place) → (place + 1) * 2 ^ suc l.exponent ≡ 2 * half + 2 * within * step
stands half width step within place l =
    let w = l.whole in
    rw (pow-suc 2 l.exponent, ← l.power, l.at) (omega (arith, w))

pub rank-at : (count half width step within place : ℕ) → IsLevel half width step within place → within < width
    → half ≤ count → count < 2 * half → place < count → rank (count + 1 - half) (2 * within * step + step - 1) < count
rank-at count half width step within place l less low high here =
    let e = l.power in
    let f = 2 * within * step in
    let up = rw (← l.power) at (rank-step half count place l.exponent f low high here (stands half width step within place l)) in
    let top = left-below half width step within place l less in
    let some = some-step half width step within place l in
    under count half (f + step) (rank (count + 1 - half) (f + step - 1)) low high (omega arith) up
  where
    under : (len half x r : ℕ) → half ≤ len → len < 2 * half → x < 2 * half → rank (len + 1 - half) x ≡ r + 1 → r < len
    under len half x r low high below up = omega arith

pub one-more-place : (table sorted : List (ℕ × ℕ)) (half width step within place : ℕ) → IsLevel half width step within place → within < width
    → IsFilledTo table sorted half place
    → IsFilledTo (table ++ (get_or sorted (rank (length sorted + 1 - half) (2 * within * step + step - 1)) (0, 0) ∷ [])) sorted half (place + 1)
one-more-place table sorted half width step within place l less so =
    let n = so.so_far in
    let one = get_or sorted (rank (length sorted + 1 - half) (2 * within * step + step - 1)) (0, 0) in
    let mine = stands half width step within place l in
    let fits = left-below half width step within place l less in
    let twice : 2 ^ suc l.exponent ≡ 2 * step = let p = l.power in rw (pow-suc 2 l.exponent) (omega arith) in
    record {
      so_far = rw (length-append table (one ∷ [])) (omega arith);
      each = λ i h f below e top.
          elim (cases_lt i place) as (λ _. get_or (table ++ (one ∷ [])) i (0, 0) ≡ get_or sorted (rank (length sorted + 1 - half) (f + 2 ^ h - 1)) (0, 0)) [
            | inl before ↦ get_or_append_left table (one ∷ []) (0, 0) i (omega arith) ∙ so.each i h f before e top
            | inr not ↦
                (let here : i ≡ place = omega arith in
                let e' = rw here at e in
                let level : h ≡ l.exponent = one-level (place + 1) half h l.exponent f (2 * within * step) e' top mine (omega arith) in
                let step_is : 2 ^ h ≡ step = ap (λ k. 2 ^ k) level ∙ sym l.power in
                let f_is : f ≡ 2 * within * step = let e2 = rw level at e' in omega arith in
                rw (step_is, f_is) (get_or_push table one (0, 0) i (n ∙ sym here)))
          ];
    }

pub is-filled : (table sorted : List (ℕ × ℕ)) (half : ℕ) → half ≤ length sorted → length sorted < 2 * half → IsFilledTo table sorted half (length sorted) → IsFilled table sorted half
is-filled table sorted half low high so =
    let e = so.so_far in
    record { same = e; low = omega arith; high = omega arith; each = λ i h f below. so.each i h f (omega arith) }

pub record IsAt (half width step within place : ℕ) : Type 0 where
  pub level : IsLevel half width step within place
  pub less : within < width

-- the same level, or the next one
pub at-next : (half width step within count place w s i : ℕ) → IsLevel half width step within place → within ≡ width → w ≡ width * 2 → s ≡ step / 2 → i ≡ 0
    → place < count → count < 2 * half → IsAt half w s i place
at-next half width step within count place w s i l full wide short first here high =
    let l' : IsLevel half width step width place = subst (λ k. IsLevel half width step k place) full l in
    let a = l'.at in
    let n = next-level half width step count place l' here high in
    record { level = rw (wide, short, first) n; less = omega arith }

pub at-same : (half width step within place w s i : ℕ) → IsLevel half width step within place → within ≢ width → w ≡ width → s ≡ step → i ≡ within
    → IsAt half w s i place
at-same half width step within place w s i l not wide short first =
    let u = l.up_to in
    record { level = rw (wide, short, first) l; less = omega arith }

-- the rank as the code computes it
pub rank-is : (half len count left r : ℕ) → len ≡ count → half ≤ len → 0 < left → r ≡ min (left / 2) (count - half + 1) → rank (len + 1 - half) (left - 1) ≡ (left - 1) / 2 + r
rank-is half len count left r same low some e =
    let a : count - half + 1 ≡ len + 1 - half = omega arith in
    let b : left - 1 + 1 ≡ left = omega arith in
    rw (e, a, b) refl
