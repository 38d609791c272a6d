-- Which unwinder of the session each unwinder of the input is, and how many are the same.
use Rattle.std.proofs.Common.{◌≡◌, ◌≢◌, ℕ, zero, suc, ◌+◌, ◌-◌, ◌<◌, ◌≤◌, Bool, true, false, ◌==◌, ◌⊎◌, List, [], ◌∷◌, ◌++◌, map, length, get_or, set, refl, sym, ap, ◌∙◌, subst, inl, inr, ⊎_elim, arith, ltb-true, eq-eqb, ne_eqb, nat_lt}
use Rattle.std.specs.Prelude.{OnOk, Result, Ok, Err}
use Rattle.std.proofs.lemmas.Bool.{ltb-false, eqb-true}
use Rattle.std.proofs.lemmas.List.{length-set, map-append}
use Rattle.framehop.specs.Modules.{UnwinderView}
use Rattle.framehop_walk.specs.Sharing.{times, one_if, IsCounted, unwinder_in}

-- ---- lists at a number

pub length-push : {A : Type 0} (xs : List A) (x : A) → length (xs ++ x ∷ []) ≡ length xs + 1
length-push [] x = refl
length-push (y ∷ xs) x = let e = length-push xs x in omega (arith, e)

get-before : {A : Type 0} (xs : List A) (x d : A) (i : ℕ) → i < length xs → get_or (xs ++ x ∷ []) i d ≡ get_or xs i d
get-before [] x d i within = absurd (omega arith)
get-before (y ∷ xs) x d zero within = refl
get-before (y ∷ xs) x d (suc i) within = get-before xs x d i (omega arith)

get-last : {A : Type 0} (xs : List A) (x d : A) → get_or (xs ++ x ∷ []) (length xs) d ≡ x
get-last [] x d = refl
get-last (y ∷ xs) x d = get-last xs x d

pub get-set : {A : Type 0} (xs : List A) (x d : A) (i : ℕ) → i < length xs → get_or (set xs i x) i d ≡ x
get-set [] x d i within = absurd (omega arith)
get-set (y ∷ xs) x d zero within = refl
get-set (y ∷ xs) x d (suc i) within = get-set xs x d i (omega arith)

get-set_other : {A : Type 0} (xs : List A) (x d : A) (i j : ℕ) → i ≢ j → get_or (set xs i x) j d ≡ get_or xs j d
get-set_other [] x d i j other = refl
get-set_other (y ∷ xs) x d zero zero other = absurd (other refl)
get-set_other (y ∷ xs) x d zero (suc j) other = refl
get-set_other (y ∷ xs) x d (suc i) zero other = refl
get-set_other (y ∷ xs) x d (suc i) (suc j) other = get-set_other xs x d i j (λ e. other (ap suc e))

-- an item that is there is the same whatever stands for one that is not
pub get-default : {A : Type 0} (xs : List A) (i : ℕ) (c d : A) → i < length xs → get_or xs i c ≡ get_or xs i d
get-default [] i c d within = absurd (omega arith)
get-default (x ∷ xs) zero c d within = refl
get-default (x ∷ xs) (suc i) c d within = get-default xs i c d (omega arith)

same-or : (i j : ℕ) → (i ≡ j) ⊎ (i ≢ j)
same-or i j = by (i == j) refl
  where
    by : (b : Bool) → (i == j) ≡ b → (i ≡ j) ⊎ (i ≢ j)
    by true e = inl (eqb-true i j e)
    by false e = inr (λ same. let t = eq-eqb i j same in cc)

below-or : (i n : ℕ) → i < n + 1 → (i < n) ⊎ (i ≡ n)
below-or i n within = by (nat_lt i n) refl
  where
    by : (b : Bool) → nat_lt i n ≡ b → (i < n) ⊎ (i ≡ n)
    by true e = inl (ltb-true i n e)
    by false e = let past = ltb-false i n e in inr (omega arith)

-- ---- how often a number is in a list

one-same : (p : ℕ) → one_if (p == p) ≡ 1
one-same p = ap one_if (eq-eqb p p refl)

one-equal : (p q : ℕ) → p ≡ q → one_if (p == q) ≡ 1
one-equal p q same = ap one_if (eq-eqb p q same)

one-other : (p q : ℕ) → p ≢ q → one_if (p == q) ≡ 0
one-other p q other = ap one_if (ne_eqb p q other)

times-next : (r p : ℕ) (ps : List ℕ) → times r (p ∷ ps) ≡ one_if (p == r) + times r ps
unfolding times
times-next r p ps = refl

pub times-push : (r p : ℕ) (ps : List ℕ) → times r (ps ++ p ∷ []) ≡ times r ps + one_if (p == r)
unfolding times
times-push r p [] = omega arith
times-push r p (q ∷ ps) = let e = times-push r p ps in omega (arith, e)

pub times-set : (r k : ℕ) (ps : List ℕ) (u : ℕ) → u < length ps
    → times r (set ps u k) + one_if (get_or ps u 0 == r) ≡ times r ps + one_if (k == r)
unfolding times
times-set r k [] u within = absurd (omega arith)
times-set r k (q ∷ ps) zero within = omega arith
times-set r k (q ∷ ps) (suc u) within = let e = times-set r k ps u (omega arith) in omega (arith, e)

times-absent : (r : ℕ) (ps : List ℕ) → ((u : ℕ) → u < length ps → get_or ps u 0 < r) → times r ps ≡ 0
unfolding times
times-absent r [] within = refl
times-absent r (q ∷ ps) within =
    let e = times-absent r ps (λ u below. within (suc u) (omega arith)) in
    let below : q < r = within zero (omega arith) in
    let none = one-other q r (λ same. absurd (omega arith)) in
    omega (arith, e, none)

pub times-at : (ps : List ℕ) (u : ℕ) → u < length ps → 1 ≤ times (get_or ps u 0) ps
unfolding times
times-at [] u within = absurd (omega arith)
times-at (q ∷ ps) zero within = let e = one-same q in omega (arith, e)
times-at (q ∷ ps) (suc u) within = let e = times-at ps u (omega arith) in omega (arith, e)

one-bound : (b : Bool) → one_if b ≤ 1
one-bound true = omega arith
one-bound false = omega arith

pub times-bound : (r : ℕ) (ps : List ℕ) → times r ps ≤ length ps
unfolding times
times-bound r [] = omega arith
times-bound r (q ∷ ps) = let e = times-bound r ps in let b = one-bound (q == r) in omega (arith, e, b)

-- ---- the unwinders of the input, by those of the session

none_made : UnwinderView
none_made = record { modules = []; generation = 0 }

seen : List UnwinderView → List ℕ → List UnwinderView
seen us places = map (unwinder_in us) places

pub seen-at : (us : List UnwinderView) (places : List ℕ) (u : ℕ) → u < length places
    → unwinder_in (map (unwinder_in us) places) u ≡ unwinder_in us (get_or places u 0)
seen-at us [] u within = absurd (omega arith)
seen-at us (p ∷ places) zero within = refl
seen-at us (p ∷ places) (suc u) within = seen-at us places u (omega arith)

-- one more unwinder of the session changes none
pub seen-before : (us : List UnwinderView) (x : UnwinderView) (places : List ℕ) → ((u : ℕ) → u < length places → get_or places u 0 < length us)
    → map (unwinder_in (us ++ x ∷ [])) places ≡ map (unwinder_in us) places
seen-before us x [] within = refl
seen-before us x (p ∷ places) within =
    ap (λ v. v ∷ map (unwinder_in (us ++ x ∷ [])) places) (get-before us x _ p (within zero (omega arith)))
    ∙ ap (λ vs. unwinder_in us p ∷ vs) (seen-before us x places (λ u below. within (suc u) (omega arith)))

-- an unwinder is made
pub seen-made : (us : List UnwinderView) (x : UnwinderView) (places : List ℕ) → ((u : ℕ) → u < length places → get_or places u 0 < length us)
    → map (unwinder_in (us ++ x ∷ [])) (places ++ length us ∷ []) ≡ map (unwinder_in us) places ++ x ∷ []
seen-made us x places within =
    map-append (unwinder_in (us ++ x ∷ [])) places (length us ∷ [])
    ∙ ap (λ vs. vs ++ unwinder_in (us ++ x ∷ []) (length us) ∷ []) (seen-before us x places within)
    ∙ ap (λ v. map (unwinder_in us) places ++ v ∷ []) (get-last us x _)

-- an unwinder becomes one more of the session, with the same modules
pub seen-copied : (us : List UnwinderView) (places : List ℕ) (u : ℕ) → u < length places
    → ((v : ℕ) → v < length places → get_or places v 0 < length us)
    → map (unwinder_in (us ++ unwinder_in us (get_or places u 0) ∷ [])) (set places u (length us)) ≡ map (unwinder_in us) places
seen-copied us [] u within each = absurd (omega arith)
seen-copied us (p ∷ places) zero within each =
    ap (λ v. v ∷ map (unwinder_in (us ++ unwinder_in us p ∷ [])) places) (get-last us (unwinder_in us p) _)
    ∙ ap (λ vs. unwinder_in us p ∷ vs) (seen-before us (unwinder_in us p) places (λ u below. each (suc u) (omega arith)))
seen-copied us (p ∷ places) (suc u) within each =
    ap (λ v. v ∷ map (unwinder_in (us ++ unwinder_in us (get_or places u 0) ∷ [])) (set places u (length us)))
    (get-before us (unwinder_in us (get_or places u 0)) _ p (each zero (omega arith)))
    ∙ ap (λ vs. unwinder_in us p ∷ vs) (seen-copied us places u (omega arith) (λ v below. each (suc v) (omega arith)))

-- an unwinder of the session that is none of the input is changed
seen-absent : (us : List UnwinderView) (x : UnwinderView) (p : ℕ) (places : List ℕ) → times p places ≡ 0
    → map (unwinder_in (set us p x)) places ≡ map (unwinder_in us) places
unfolding times
seen-absent us x p [] none = refl
seen-absent us x p (q ∷ places) none =
    let bound = one-bound (q == p) in
    let other : p ≢ q = λ same. let e = ap one_if (eq-eqb q p (sym same)) in absurd (omega (arith, none, e)) in
    ap (λ v. v ∷ map (unwinder_in (set us p x)) places) (get-set_other us x _ p q other)
    ∙ ap (λ vs. unwinder_in us q ∷ vs) (seen-absent us x p places (omega (arith, none)))

-- one that is only one of the input is changed
pub seen-changed : (us : List UnwinderView) (x : UnwinderView) (places : List ℕ) (u : ℕ) → u < length places
    → get_or places u 0 < length us → times (get_or places u 0) places ≡ 1
    → map (unwinder_in (set us (get_or places u 0) x)) places ≡ set (map (unwinder_in us) places) u x
unfolding times
seen-changed us x [] u within there one = absurd (omega arith)
seen-changed us x (q ∷ places) zero within there one =
    let e = one-same q in
    ap (λ v. v ∷ map (unwinder_in (set us q x)) places) (get-set us x _ q there)
    ∙ ap (λ vs. x ∷ vs) (seen-absent us x q places (omega (arith, one, e)))
seen-changed us x (q ∷ places) (suc u) within there one =
    let p = get_or places u 0 in
    let at_least = times-at places u (omega arith) in
    let other : p ≢ q = λ same. let e = ap one_if (eq-eqb q p (sym same)) in absurd (omega (arith, one, e, at_least)) in
    let bound = one-bound (q == p) in
    ap (λ v. v ∷ map (unwinder_in (set us p x)) places) (get-set_other us x _ p q other)
    ∙ ap (λ vs. unwinder_in us q ∷ vs) (seen-changed us x places u (omega arith) there (omega (arith, one, at_least)))

-- ---- the counts

pub counted-none : IsCounted [] []
counted-none = record { within = λ u below. absurd (omega arith); counted = λ p below. absurd (omega arith) }

module _ (places counts : List ℕ) (old : IsCounted places counts) where
  -- an unwinder is made
  pub counted-made : IsCounted (places ++ length counts ∷ []) (counts ++ 1 ∷ [])
  counted-made = record {
    within = λ u below.
        let size = length-push counts 1 in let wide = length-push places (length counts) in
        ⊎_elim
        (λ before. let e = get-before places (length counts) 0 u before in let old_within = old.within u before in omega (arith, e))
        (λ last. let e : get_or (places ++ length counts ∷ []) u 0 ≡ length counts = ap (λ v. get_or (places ++ length counts ∷ []) v 0) last ∙ get-last places (length counts) 0 in omega (arith, e))
        (below-or u (length places) (omega arith));
    counted = λ p below.
        let size = length-push counts 1 in
        let pushed = times-push p (length counts) places in
        ⊎_elim
        (λ before.
        let e = get-before counts 1 0 p before in let o = old.counted p before in
        let none = one-other (length counts) p (λ same. absurd (omega arith)) in
        omega (arith, e, o, none, pushed))
        (λ last.
        let e : get_or (counts ++ 1 ∷ []) p 0 ≡ 1 = ap (λ v. get_or (counts ++ 1 ∷ []) v 0) last ∙ get-last counts 1 0 in
        let absent = times-absent p places (λ u inside. let w = old.within u inside in omega arith) in
        let one = one-equal (length counts) p (sym last) in
        omega (arith, e, absent, one, pushed))
        (below-or p (length counts) (omega arith));
  }

  module _ (u : ℕ) (within : u < length places) where
    -- one more is the same
    pub counted-shared : IsCounted (places ++ get_or places u 0 ∷ []) (set counts (get_or places u 0) (get_or counts (get_or places u 0) 0 + 1))
    counted-shared =
        let place = get_or places u 0 in
        let there : place < length counts = old.within u within in
        let size = length-set counts place (get_or counts place 0 + 1) in record {
          within = λ v below.
              let wide = length-push places place in
              ⊎_elim
              (λ before. let e = get-before places place 0 v before in let o = old.within v before in omega (arith, e))
              (λ last. let e : get_or (places ++ place ∷ []) v 0 ≡ place = ap (λ w. get_or (places ++ place ∷ []) w 0) last ∙ get-last places place 0 in omega (arith, e))
              (below-or v (length places) (omega arith));
          counted = λ p below.
              let pushed = times-push p place places in
              let o = old.counted p (omega arith) in
              ⊎_elim
              (λ same. let e : get_or (set counts place (get_or counts place 0 + 1)) p 0 ≡ get_or counts place 0 + 1 = ap (λ q. get_or (set counts place (get_or counts place 0 + 1)) q 0) (sym same) ∙ get-set counts (get_or counts place 0 + 1) 0 place there in
              let one = one-equal place p same in
              let here : get_or counts place 0 ≡ get_or counts p 0 = ap (λ q. get_or counts q 0) same in
              omega (arith, e, one, here, o, pushed))
              (λ other. let e = get-set_other counts (get_or counts place 0 + 1) 0 place p other in
              let none = one-other place p other in
              omega (arith, e, none, o, pushed))
              (same-or place p);
        }

    -- one is no more the same, but one more of the session
    pub counted-copied : IsCounted (set places u (length counts)) (set counts (get_or places u 0) (get_or counts (get_or places u 0) 0 - 1) ++ 1 ∷ [])
    counted-copied =
        let place = get_or places u 0 in
        let there : place < length counts = old.within u within in
        let fewer = set counts place (get_or counts place 0 - 1) in
        let size : length fewer ≡ length counts = length-set counts place (get_or counts place 0 - 1) in
        let longer = length-push fewer 1 in
        let wide = length-set places u (length counts) in
        let at_least = times-at places u within in
        let here = old.counted place there in record {
          within = λ v below.
              ⊎_elim
              (λ same. let e : get_or (set places u (length counts)) v 0 ≡ length counts = ap (λ w. get_or (set places u (length counts)) w 0) (sym same) ∙ get-set places (length counts) 0 u within in omega (arith, e))
              (λ other. let e = get-set_other places (length counts) 0 u v other in let o = old.within v (omega arith) in omega (arith, e))
              (same-or u v);
          counted = λ p below.
              let changed = times-set p (length counts) places u within in
              ⊎_elim
              (λ before.
              let kept = get-before fewer 1 0 p before in
              let o = old.counted p (omega arith) in
              let not_last = one-other (length counts) p (λ same. absurd (omega arith)) in
              ⊎_elim
              (λ same. let e : get_or fewer p 0 ≡ get_or counts place 0 - 1 = ap (λ q. get_or fewer q 0) (sym same) ∙ get-set counts (get_or counts place 0 - 1) 0 place there in
              let one = one-equal place p same in
              let equal : get_or counts place 0 ≡ get_or counts p 0 = ap (λ q. get_or counts q 0) same in
              omega (arith, kept, e, one, equal, o, here, at_least, not_last, changed))
              (λ other. let e = get-set_other counts (get_or counts place 0 - 1) 0 place p other in
              let none = one-other place p other in
              omega (arith, kept, e, none, o, not_last, changed))
              (same-or place p))
              (λ last.
              let e : get_or (fewer ++ 1 ∷ []) p 0 ≡ 1 = ap (λ v. get_or (fewer ++ 1 ∷ []) v 0) last ∙ get-last fewer 1 0 in
              let absent = times-absent p places (λ v inside. let w = old.within v inside in omega arith) in
              let one = one-equal (length counts) p (omega arith) in
              let none = one-other place p (λ same. absurd (omega arith)) in
              omega (arith, e, absent, one, none, changed))
              (below-or p (length fewer) (omega arith));
        }

pub below-or_past : (i n : ℕ) → (i < n) ⊎ (n ≤ i)
below-or_past i n = by (nat_lt i n) refl
  where
    by : (b : Bool) → nat_lt i n ≡ b → (i < n) ⊎ (n ≤ i)
    by true e = inl (ltb-true i n e)
    by false e = inr (ltb-false i n e)

-- the copy is only one of the input
pub copied-once : (places counts : List ℕ) → IsCounted places counts → (u : ℕ) → u < length places
    → times (length counts) (set places u (length counts)) ≡ 1
copied-once places counts old u within =
    let changed = times-set (length counts) (length counts) places u within in
    let absent = times-absent (length counts) places (λ v inside. old.within v inside) in
    let one = one-same (length counts) in
    let there = old.within u within in
    let none = one-other (get_or places u 0) (length counts) (λ same. absurd (omega arith)) in
    omega (arith, changed, absent, one, none)

-- an unwinder of the session that is one of the input is at least that one
pub counted-some : (places counts : List ℕ) → IsCounted places counts → (u place : ℕ) → u < length places → place ≡ get_or places u (length counts)
    → (1 ≤ get_or counts place 0) × (place ≡ get_or places u 0) × (place < length counts)
counted-some places counts old u place within is =
    let at : place ≡ get_or places u 0 = is ∙ get-default places u (length counts) 0 within in
    let there = old.within u within in
    let count = old.counted place (omega (arith, at, there)) in
    let some = times-at places u within in
    let same : times (get_or places u 0) places ≡ times place places = ap (λ p. times p places) (sym at) in
    (omega (arith, count, some, same), at, omega (arith, at, there))

-- what the code does to the counts
pub own-counted : (places counts : List ℕ) → IsCounted places counts → (u place x copy : ℕ) (new : List ℕ) → u < length places
    → place ≡ get_or places u (length counts) → x ≡ get_or counts place x → copy ≡ length counts → new ≡ set counts place (x - 1) ++ 1 ∷ []
    → IsCounted (set places u copy) new
own-counted places counts old u place x copy new within is value copied fewer =
    let some = counted-some places counts old u place within is in
    let count : x ≡ get_or counts (get_or places u 0) 0 =
    value ∙ get-default counts place x 0 some.2 ∙ ap (λ p. get_or counts p 0) some.1 in
    let e : set counts (get_or places u 0) (get_or counts (get_or places u 0) 0 - 1) ++ 1 ∷ [] ≡ new =
    ap (λ n. set counts (get_or places u 0) (n - 1) ++ 1 ∷ []) (sym count) ∙ ap (λ p. set counts p (x - 1) ++ 1 ∷ []) (sym some.1) ∙ sym fewer in
    subst (λ c. IsCounted (set places u copy) c) e
    (subst (λ n. IsCounted (set places u n) (set counts (get_or places u 0) (get_or counts (get_or places u 0) 0 - 1) ++ 1 ∷ [])) (sym copied)
    (counted-copied places counts old u within))

pub own-size : (counts new : List ℕ) (place x : ℕ) → new ≡ set counts place x ++ 1 ∷ [] → length new ≡ length counts + 1
own-size counts new place x fewer =
    let a = length-push (set counts place x) 1 in let b = length-set counts place x in let c = ap length fewer in omega (arith, a, b, c)

-- the count of one that is shared fits: it is at most the number of the input's unwinders
pub counted-few : (places counts : List ℕ) → IsCounted places counts → (place : ℕ) → place < length counts → get_or counts place 0 ≤ length places
counted-few places counts old place there =
    let count = old.counted place there in let bound = times-bound place places in omega (arith, count, bound)

pub counted-by : (places counts other_places other_counts : List ℕ) → other_places ≡ places → other_counts ≡ counts → IsCounted places counts
    → IsCounted other_places other_counts
counted-by places counts other_places other_counts p c old =
    subst (λ ps. IsCounted ps other_counts) (sym p) (subst (λ cs. IsCounted places cs) (sym c) old)

-- ---- what holds after a call that has not failed

pub on_ok_1 : {T E P X : Type 0} (r : Result T E) → (P → X) → OnOk r P → OnOk r X
on_ok_1 (Ok x) f p = f p
on_ok_1 (Err e) f p = tt

pub on_ok_2 : {T E P Q X : Type 0} (r : Result T E) → (P → Q → X) → OnOk r P → OnOk r Q → OnOk r X
on_ok_2 (Ok x) f p q = f p q
on_ok_2 (Err e) f p q = tt

pub on_ok_4 : {T E P Q R S X : Type 0} (r : Result T E) → (P → Q → R → S → X) → OnOk r P → OnOk r Q → OnOk r R → OnOk r S → OnOk r X
on_ok_4 (Ok x) f p q m t = f p q m t
on_ok_4 (Err e) f p q m t = tt
