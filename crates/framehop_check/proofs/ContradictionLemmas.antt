-- What is known of the CFA follows from a row and a run, so that an alarm is a contradiction.
use Rattle.std.proofs.Common.{◌≡◌, ◌⊎◌, ℕ, ℤ, pos, ◌+ℤ◌, ◌-ℤ◌, Bool, true, false, ◌&&◌, List, [], ◌∷◌, ◌++◌, Option, Some, None, refl, sym, ap, subst, ◌∙◌, append_assoc, append-nil, arith, inl, inr}
use Rattle.std.specs.List.{AllByRecursion}
use Rattle.std.specs.Ordering.{int_eq}
use Rattle.std.proofs.lemmas.Int.{ints}
use Rattle.std.proofs.lemmas.Bool.{cases_Bool, and_parts}
use Rattle.std.proofs.lemmas.Bool.Decides.{Decides-int_eq}
use Rattle.framehop_cfi.specs.Leb128.{fits_i64}
use Rattle.framehop_code.specs.Effect.{State, value_of, Becomes, Does}
use Rattle.framehop_code.specs.declared.effect.Base.{Base}
use Rattle.framehop_code.specs.declared.effect.Base.TheVariants.{Sp, Fp}
use Rattle.framehop_code.specs.declared.effect.Change.{Change}
use Rattle.framehop_code.specs.declared.effect.Change.TheVariants.{Sum, Unknown}
use Rattle.framehop_code.specs.declared.effect.Effect.{Effect}
use Rattle.framehop_code.specs.declared.effect.Flow.{Flow}
use Rattle.framehop_code.specs.declared.effect.Flow.TheVariants.{Next, Padding, Call, Branch, Jump, Return, Leaves}
use Rattle.framehop_check.specs.declared.claim.Claim.{Claim}
use Rattle.framehop_check.specs.declared.claim.Claim.TheVariants.{Above, Other}
use Rattle.framehop_check.specs.declared.check.Item.{Item}
use Rattle.framehop_check.specs.declared.check.Pass.{Pass}
use Rattle.framehop_check.specs.declared.known.Known.{Known}
use Rattle.framehop_check.specs.declared.report.Alarm.{Alarm}
use Rattle.framehop_check.specs.declared.tracked.Came.{Came}
use Rattle.framehop_check.specs.declared.tracked.Came.TheVariants as came
use Rattle.framehop_check.specs.declared.tracked.Tracked.{Tracked}
use Rattle.framehop_check.specs.declared.tracked.Fault.{Fault}
use Rattle.framehop_check.specs.declared.tracked.Fault.TheVariants.{Differs, Overwritten, Returns, Jumps}
use Rattle.framehop_check.specs.Claim.{Says}
use Rattle.framehop_check.specs.Known.{nothing, known_of, nearer, after_change, after, agreed_on, agreed}
use Rattle.framehop_check.specs.Tracked.{arriving_by, arriving, same_base, same_claim, fault_by, fault_at, is_lost, is_next, is_stale, is_unknown, step, returned, fault_of_return, jumped, fault_of_jump, is_elsewhere, is_padding, is_passed, beginning}
use Rattle.framehop_check.specs.Report.{list_of}
use Rattle.framehop_check.specs.Check.{goes_on, difference, alarm_of, row_alarm, return_alarm, jump_fault, jump_alarm, step_of, alarms_at, pass_after, alarms_from, first_pass}
use Rattle.framehop_check.specs.Contradiction.{RunsThrough, NeverBoth, RowContradicts, JumpContradicts, ReturnContradicts, RowIsOverwritten, change_of, HasMeaning, pass_through, RowsFollow}

-- ---- runs

pub becomes : (e : Effect) (s t : State) → Does e s t → (base : Base) → Becomes (change_of e base) s (value_of t base)
becomes e s t does Sp = does.sp
becomes e s t does Fp = does.fp

-- a run through one more instruction
last-step : (items : List Item) (i : Item) (s t : State) → RunsThrough (items ++ i ∷ []) s t
    → (u : State) × RunsThrough items s u × Does i.effect u t
last-step [] i s t run = (s, refl, subst (λ v. Does i.effect s v) run.2 run.1)
last-step (j ∷ items) i s t run =
    let rest = last-step items i run.0 t run.2 in
    (rest.0, (run.0, run.1, rest.1), rest.2)

-- after a run from an instruction on whose row is true the CFA is so many bytes above a register
pub Tells : Item → List Item → Base → ℤ → Type 0
Tells first between base offset =
    (cfa : ℤ) (s t : State) → RunsThrough (first ∷ between) s t → Says first.claim cfa s → cfa ≡ value_of t base +ℤ offset

pub record Knows (items : List Item) (base : Base) (offset : ℤ) : Type 0 where
  pub early : List Item
  pub first : Item
  pub between : List Item
  pub list : items ≡ early ++ first ∷ between
  pub tells : Tells first between base offset

pub moved : (cfa u v : ℤ) (offset bytes : ℤ) → cfa ≡ u +ℤ offset → v ≡ u +ℤ bytes → cfa ≡ v +ℤ (offset -ℤ bytes)
moved cfa u v offset bytes is to = omega (arith, ints, is, to)

-- one more instruction
knows-step : (items : List Item) (i : Item) (base to : Base) (offset bytes : ℤ) → change_of i.effect to ≡ Sum base bytes
    → Knows items base offset → Knows (items ++ i ∷ []) to (offset -ℤ bytes)
unfolding Tells
knows-step items i base to offset bytes change k = record {
  early = k.early;
  first = k.first;
  between = k.between ++ i ∷ [];
  list = ap (λ (xs : List Item). xs ++ i ∷ []) k.list ∙ append_assoc k.early (k.first ∷ k.between) (i ∷ []);
  tells = λ cfa s t run says.
      let parts = last-step (k.first ∷ k.between) i s t run in
      moved cfa (value_of parts.0 base) (value_of t to) offset bytes (k.tells cfa s parts.0 parts.1 says)
      (subst (λ (c : Change). Becomes c parts.0 (value_of t to)) change (becomes i.effect parts.0 t parts.2 to));
}

-- the instruction's own row
knows-own : (items : List Item) (i : Item) (base to : Base) (offset bytes : ℤ) → change_of i.effect to ≡ Sum base bytes
    → i.claim ≡ Above base offset → Knows (items ++ i ∷ []) to (offset -ℤ bytes)
unfolding Tells
knows-own items i base to offset bytes change own = record {
  early = items;
  first = i;
  between = [];
  list = refl;
  tells = λ cfa s t run says.
      let does = subst (λ v. Does i.effect s v) run.2 run.1 in
      moved cfa (value_of s base) (value_of t to) offset bytes (subst (λ (c : Claim). Says c cfa s) own says)
      (subst (λ (c : Change). Becomes c s (value_of t to)) change (becomes i.effect s t does to));
}

-- ---- what is known

-- each distance that is known is told by a run
pub Grounded : List Item → Known → Type 0
Grounded items known = (base : Base) (offset : ℤ) → known_of known base ≡ Some offset → Knows items base offset

grounded-nothing : (items : List Item) → Grounded items nothing
unfolding Grounded
grounded-nothing items Sp offset is = cc
grounded-nothing items Fp offset is = cc

pub some-same : (x y : ℤ) → ◌≡◌ {A = Option ℤ} (Some x) (Some y) → x ≡ y
some-same x y is = cc

-- where the known distance of a register comes from
agreed-on : (known : Known) (own base : Base) (row offset : ℤ) (found : Option ℤ) → known_of known own ≡ found
    → known_of (agreed_on known own row found) base ≡ Some offset
    → (known_of known base ≡ Some offset) ⊎ (Above own row ≡ Above base offset)
agreed-on known own base row offset (Some code) is has = inl has
agreed-on known Sp Sp row offset None is has = inr (ap (Above Sp) (some-same row offset has))
agreed-on known Sp Fp row offset None is has = inl has
agreed-on known Fp Sp row offset None is has = inl has
agreed-on known Fp Fp row offset None is has = inr (ap (Above Fp) (some-same row offset has))

pub none-of-nothing : (base : Base) (offset : ℤ) → known_of nothing base ≡ Some offset → ⊥
none-of-nothing Sp offset is = cc
none-of-nothing Fp offset is = cc

pub agreed-from : (known : Known) (claim : Claim) (base : Base) (offset : ℤ) → known_of (agreed known claim) base ≡ Some offset
    → (known_of known base ≡ Some offset) ⊎ (claim ≡ Above base offset)
agreed-from known (Above own row) base offset has = agreed-on known own base row offset (known_of known own) refl has
agreed-from known Other base offset has = absurd (none-of-nothing base offset has)

nearer-from : (bytes : ℤ) (distance : Option ℤ) (offset : ℤ) → nearer bytes distance ≡ Some offset
    → (old : ℤ) × (distance ≡ Some old) × (offset ≡ old -ℤ bytes)
nearer-from bytes (Some old) offset is =
    elim (cases_Bool (fits_i64 (old -ℤ bytes))) [
      | inl fits ↦ (let e = rw fits at is in (old, refl, sym (some-same (old -ℤ bytes) offset e)))
      | inr large ↦ (let e = rw large at is in cc)
    ]
nearer-from bytes None offset is = cc

pub known-after : (known : Known) (e : Effect) (to : Base) → known_of (after known e) to ≡ after_change known (change_of e to)
known-after known e Sp = refl
known-after known e Fp = refl

pub change-from : (known : Known) (change : Change) (offset : ℤ) → after_change known change ≡ Some offset
    → (base : Base) × (bytes old : ℤ) × (change ≡ Sum base bytes) × (known_of known base ≡ Some old) × (offset ≡ old -ℤ bytes)
change-from known (Sum base bytes) offset is =
    let from = nearer-from bytes (known_of known base) offset is in
    (base, bytes, from.0, refl, from.1, from.2)
change-from known Unknown offset is = cc

grounded-after : (items : List Item) (i : Item) (known : Known) → Grounded items known
    → Grounded (items ++ i ∷ []) (after (agreed known i.claim) i.effect)
unfolding Grounded
grounded-after items i known grounded to offset has =
    let from = change-from (agreed known i.claim) (change_of i.effect to) offset (sym (known-after (agreed known i.claim) i.effect to) ∙ has) in
    rw from.5
    (elim (agreed-from known i.claim from.0 from.2 from.4) [
      | inl old ↦ knows-step items i from.0 to from.2 from.1 from.3 (grounded from.0 from.2 old)
      | inr own ↦ knows-own items i from.0 to from.2 from.1 from.3 own
    ])

-- at an instruction, whatever its row says
pub GroundedAt : List Item → Tracked → Type 0
GroundedAt items tracked = (claim : Claim) → Grounded items (arriving tracked claim)

by-arrival : (items : List Item) (c : Came) (known : Known) (same : Bool) → Grounded items known → Grounded items (arriving_by c known same)
by-arrival items came.Next known same grounded = grounded
by-arrival items came.Returned known true grounded = grounded
by-arrival items came.Returned known false grounded = grounded-nothing items
by-arrival items came.Elsewhere known same grounded = grounded-nothing items

grounded-step : (items : List Item) (i : Item) (tracked : Tracked) → GroundedAt items tracked
    → GroundedAt (items ++ i ∷ []) (step tracked i.claim i.effect)
unfolding GroundedAt
grounded-step items i tracked grounded claim =
    by-arrival (items ++ i ∷ []) (step tracked i.claim i.effect).came (step tracked i.claim i.effect).known
    (same_claim i.claim claim) (grounded-after items i (arriving tracked i.claim) (grounded i.claim))

elsewhere : (c : Came) (known : Known) (same : Bool) → is_elsewhere c ≡ true → arriving_by c known same ≡ nothing
elsewhere came.Next known same is = cc
elsewhere came.Returned known same is = cc
elsewhere came.Elsewhere known same is = refl

grounded-elsewhere : (items : List Item) (tracked : Tracked) → is_elsewhere tracked.came ≡ true → GroundedAt items tracked
unfolding GroundedAt
grounded-elsewhere items tracked is claim =
    subst (Grounded items) (sym (elsewhere tracked.came tracked.known (same_claim tracked.claim claim) is)) (grounded-nothing items)

-- ---- alarms

unequal : (x y : ℤ) → int_eq x y ≡ false → x ≡ y → ⊥
unequal x y is same = let d = (Decides-int_eq x y).1 same in cc

-- what differs is known
differs-from : (own base : Base) (row said code : ℤ) (stale : Bool) (known : Option ℤ)
    → fault_by own said stale known ≡ Some (Differs base row code)
    → (known ≡ Some code) × (Above own said ≡ Above base row) × (int_eq code row ≡ false)
differs-from own base row said code stale (Some c) is =
    elim (cases_Bool (int_eq c said)) [
      | inl same ↦ (let e = rw same at is in cc)
      | inr other ↦
          (let e : ◌≡◌ {A = Option Fault} (Some (Differs own said c)) (Some (Differs base row code)) = rw other at is in
          let b : own ≡ base = cc in
          let r : said ≡ row = cc in
          let k : c ≡ code = cc in
          (ap Some k, (rw (b, r) refl), subst (λ x. int_eq x row ≡ false) k (subst (λ x. int_eq c x ≡ false) r other)))
    ]
differs-from own base row said code true None is = cc
differs-from own base row said code false None is = cc

fault-from : (tracked : Tracked) (claim : Claim) (base : Base) (row code : ℤ) → fault_at tracked claim ≡ Some (Differs base row code)
    → (known_of (arriving tracked claim) base ≡ Some code) × (claim ≡ Above base row) × (int_eq code row ≡ false)
fault-from tracked (Above own said) base row code is =
    let from = differs-from own base row said code (is_stale tracked (Above own said)) (known_of (arriving tracked (Above own said)) own) is in
    let b : own ≡ base = (let e = from.1 in cc) in
    (subst (λ x. known_of (arriving tracked (Above own said)) x ≡ Some code) b from.0, from.1, from.2)
fault-from tracked Other base row code is = cc

-- no CFA is both where a run tells and where a row says
never-both : (first : Item) (between : List Item) (claim : Claim) (base : Base) (row code : ℤ) → Tells first between base code
    → claim ≡ Above base row → int_eq code row ≡ false → NeverBoth first between claim
unfolding Tells
never-both first between claim base row code tells says differ cfa s t run true_first true_here =
    let by_run = tells cfa s t run true_first in
    let by_row = subst (λ (c : Claim). Says c cfa t) says true_here in
    unequal code row differ (omega (arith, ints, by_run, by_row))

no-jump-by : (own : Base) (said : ℤ) (stale : Bool) (known : Option ℤ) (target : ℕ) (base : Base) (row code : ℤ)
    → fault_by own said stale known ≡ Some (Jumps target base row code) → ⊥
no-jump-by own said stale (Some c) target base row code is =
    elim (cases_Bool (int_eq c said)) [
      | inl same ↦ (let e = rw same at is in cc)
      | inr other ↦ (let e = rw other at is in cc)
    ]
no-jump-by own said true None target base row code is = cc
no-jump-by own said false None target base row code is = cc

no-jump : (tracked : Tracked) (claim : Claim) (target : ℕ) (base : Base) (row code : ℤ)
    → fault_at tracked claim ≡ Some (Jumps target base row code) → ⊥
no-jump tracked (Above own said) target base row code is =
    no-jump-by own said (is_stale tracked (Above own said)) (known_of (arriving tracked (Above own said)) own) target base row code is
no-jump tracked Other target base row code is = cc

no-row-jumped : (to : ℕ) (own : Base) (said : ℤ) (known : Option ℤ) (base : Base) (row code : ℤ)
    → jumped to own said known ≡ Some (Differs base row code) → ⊥
no-row-jumped to own said (Some c) base row code is =
    elim (cases_Bool (int_eq c said)) [
      | inl same ↦ (let e = rw same at is in cc)
      | inr other ↦ (let e = rw other at is in cc)
    ]
no-row-jumped to own said None base row code is = cc

no-row-of : (known : Known) (to : ℕ) (claim : Claim) (base : Base) (row code : ℤ)
    → fault_of_jump known to claim ≡ Some (Differs base row code) → ⊥
no-row-of known to (Above own said) base row code is = no-row-jumped to own said (known_of known own) base row code is
no-row-of known to Other base row code is = cc

no-row : (tracked : Tracked) (to : Option (ℕ × Claim)) (base : Base) (row code : ℤ)
    → jump_fault tracked to ≡ Some (Differs base row code) → ⊥
no-row tracked (Some t) base row code is = no-row-of tracked.known t.0 t.1 base row code is
no-row tracked None base row code is = cc

-- ---- the instruction before

-- the last of the instructions before, where it is what the pass has come from
pub record Last (before : List Item) (tracked : Tracked) : Type 0 where
  pub early : List Item
  pub last : Item
  pub list : before ≡ early ++ last ∷ []
  pub claim : tracked.claim ≡ last.claim
  pub sp : tracked.sp_lost ≡ is_unknown last.effect.sp
  pub fp : tracked.fp_lost ≡ is_unknown last.effect.fp

pub Preceded : List Item → Tracked → Type 0
Preceded before tracked = is_next tracked.came ≡ true → Last before tracked

not-both : (c : Came) → is_elsewhere c ≡ true → is_next c ≡ true → ⊥
not-both came.Next elsewhere next = cc
not-both came.Returned elsewhere next = cc
not-both came.Elsewhere elsewhere next = cc

preceded-elsewhere : (before : List Item) (tracked : Tracked) → is_elsewhere tracked.came ≡ true → Preceded before tracked
unfolding Preceded
preceded-elsewhere before tracked elsewhere next = absurd (not-both tracked.came elsewhere next)

preceded-step : (before : List Item) (i : Item) (tracked : Tracked) → Preceded (before ++ i ∷ []) (step tracked i.claim i.effect)
unfolding Preceded
preceded-step before i tracked next = record { early = before; last = i; list = refl; claim = refl; sp = refl; fp = refl }

-- ---- what is overwritten

stale-by : (own base : Base) (said row : ℤ) (stale : Bool) (known : Option ℤ)
    → fault_by own said stale known ≡ Some (Overwritten base row) → (stale ≡ true) × (Above own said ≡ Above base row)
stale-by own base said row stale (Some c) is =
    elim (cases_Bool (int_eq c said)) [
      | inl same ↦ (let e = rw same at is in cc)
      | inr other ↦ (let e = rw other at is in cc)
    ]
stale-by own base said row true None is = (refl, cc)
stale-by own base said row false None is = cc

stale-from : (tracked : Tracked) (claim : Claim) (base : Base) (row : ℤ) → fault_at tracked claim ≡ Some (Overwritten base row)
    → (is_stale tracked claim ≡ true) × (claim ≡ Above base row)
stale-from tracked (Above own said) base row is =
    stale-by own base said row (is_stale tracked (Above own said)) (known_of (arriving tracked (Above own said)) own) is
stale-from tracked Other base row is = cc

same-bases : (one other : Base) → same_base one other ≡ true → one ≡ other
same-bases Sp Sp is = refl
same-bases Fp Fp is = refl
same-bases Sp Fp is = cc
same-bases Fp Sp is = cc

same-claims : (one other : Claim) → same_claim one other ≡ true → one ≡ other
same-claims (Above b x) (Above c y) is =
    let both = and_parts (same_base b c) (int_eq x y) is in
    rw (same-bases b c both.0, (Decides-int_eq x y).0 both.1) refl
same-claims Other Other is = refl
same-claims (Above b x) Other is = cc
same-claims Other (Above b x) is = cc

untold : (change : Change) → is_unknown change ≡ true → change ≡ Unknown
untold (Sum base offset) is = cc
untold Unknown is = refl

lost : (before : List Item) (tracked : Tracked) (base : Base) (row : ℤ) → (l : Last before tracked)
    → is_lost tracked (Above base row) ≡ true → change_of l.last.effect base ≡ Unknown
lost before tracked Sp row l is = untold l.last.effect.sp (sym l.sp ∙ is)
lost before tracked Fp row l is = untold l.last.effect.fp (sym l.fp ∙ is)

-- a value that a register can have after a change of it
value_after : Change → State → ℤ
value_after (Sum base offset) s = value_of s base +ℤ offset
value_after Unknown s = pos 0

becomes-value : (change : Change) (s : State) → Becomes change s (value_after change s)
unfolding value_after
becomes-value (Sum base offset) s = refl
becomes-value Unknown s = tt

one-more : (cfa row : ℤ) → cfa ≡ (cfa -ℤ row +ℤ pos 1) +ℤ row → ⊥
one-more cfa row is = omega (arith, ints, is)

leads-elsewhere : (e : Effect) (base : Base) (row cfa : ℤ) (s : State) → change_of e base ≡ Unknown
    → (t : State) × Does e s t × (Says (Above base row) cfa t → ⊥)
leads-elsewhere e Sp row cfa s is =
    let t : State = record { sp = cfa -ℤ row +ℤ pos 1; fp = value_after e.fp s } in (
      t,
      record {
        sp = subst (λ (c : Change). Becomes c s (cfa -ℤ row +ℤ pos 1)) (sym is) tt;
        fp = becomes-value e.fp s;
      },
      one-more cfa row,
    )
leads-elsewhere e Fp row cfa s is =
    let t : State = record { sp = value_after e.sp s; fp = cfa -ℤ row +ℤ pos 1 } in (
      t,
      record {
        sp = becomes-value e.sp s;
        fp = subst (λ (c : Change). Becomes c s (cfa -ℤ row +ℤ pos 1)) (sym is) tt;
      },
      one-more cfa row,
    )

no-overwritten-jump-by : (to : ℕ) (own : Base) (said : ℤ) (known : Option ℤ) (base : Base) (row : ℤ)
    → jumped to own said known ≡ Some (Overwritten base row) → ⊥
no-overwritten-jump-by to own said (Some c) base row is =
    elim (cases_Bool (int_eq c said)) [
      | inl same ↦ (let e = rw same at is in cc)
      | inr other ↦ (let e = rw other at is in cc)
    ]
no-overwritten-jump-by to own said None base row is = cc

no-overwritten-jump-of : (known : Known) (to : ℕ) (claim : Claim) (base : Base) (row : ℤ)
    → fault_of_jump known to claim ≡ Some (Overwritten base row) → ⊥
no-overwritten-jump-of known to (Above own said) base row is = no-overwritten-jump-by to own said (known_of known own) base row is
no-overwritten-jump-of known to Other base row is = cc

no-overwritten-jump : (tracked : Tracked) (to : Option (ℕ × Claim)) (base : Base) (row : ℤ)
    → jump_fault tracked to ≡ Some (Overwritten base row) → ⊥
no-overwritten-jump tracked (Some t) base row is = no-overwritten-jump-of tracked.known t.0 t.1 base row is
no-overwritten-jump tracked None base row is = cc

no-return-jump-by : (to : ℕ) (own : Base) (said : ℤ) (known : Option ℤ) (code : ℤ)
    → jumped to own said known ≡ Some (Returns code) → ⊥
no-return-jump-by to own said (Some c) code is =
    elim (cases_Bool (int_eq c said)) [
      | inl same ↦ (let e = rw same at is in cc)
      | inr other ↦ (let e = rw other at is in cc)
    ]
no-return-jump-by to own said None code is = cc

no-return-jump-of : (known : Known) (to : ℕ) (claim : Claim) (code : ℤ) → fault_of_jump known to claim ≡ Some (Returns code) → ⊥
no-return-jump-of known to (Above own said) code is = no-return-jump-by to own said (known_of known own) code is
no-return-jump-of known to Other code is = cc

no-return-jump : (tracked : Tracked) (to : Option (ℕ × Claim)) (code : ℤ) → jump_fault tracked to ≡ Some (Returns code) → ⊥
no-return-jump tracked (Some t) code is = no-return-jump-of tracked.known t.0 t.1 code is
no-return-jump tracked None code is = cc

no-return-by : (own : Base) (said : ℤ) (stale : Bool) (known : Option ℤ) (code : ℤ)
    → fault_by own said stale known ≡ Some (Returns code) → ⊥
no-return-by own said stale (Some c) code is =
    elim (cases_Bool (int_eq c said)) [
      | inl same ↦ (let e = rw same at is in cc)
      | inr other ↦ (let e = rw other at is in cc)
    ]
no-return-by own said true None code is = cc
no-return-by own said false None code is = cc

no-return : (tracked : Tracked) (claim : Claim) (code : ℤ) → fault_at tracked claim ≡ Some (Returns code) → ⊥
no-return tracked (Above own said) code is =
    no-return-by own said (is_stale tracked (Above own said)) (known_of (arriving tracked (Above own said)) own) code is
no-return tracked Other code is = cc

module _ (entry : ℤ) (items : List Item) where
  row-told : (before after : List Item) (pass : Pass) (i : Item) (address : ℕ) (base : Base) (row code : ℤ)
      → items ≡ before ++ i ∷ after → GroundedAt before pass.tracked → i.address ≡ address
      → fault_at pass.tracked i.claim ≡ Some (Differs base row code) → RowContradicts items address base row
  unfolding GroundedAt Grounded
  row-told before after pass i address base row code list grounded at is =
      let from = fault-from pass.tracked i.claim base row code is in
      let known = grounded i.claim base code from.0 in
      record {
        early = known.early;
        first = known.first;
        between = known.between;
        here = i;
        late = after;
        list = list ∙ ap (λ (xs : List Item). xs ++ i ∷ after) known.list;
        at = at;
        says = from.1;
        never = never-both known.first known.between i.claim base row code known.tells from.1 from.2;
      }

  jumped-from : (target : ℕ) (own base : Base) (row said code : ℤ) (to : ℕ) (known : Option ℤ)
      → jumped to own said known ≡ Some (Jumps target base row code)
      → (known ≡ Some code) × (to ≡ target) × (Above own said ≡ Above base row) × (own ≡ base) × (int_eq code row ≡ false)
  jumped-from target own base row said code to (Some c) is =
      elim (cases_Bool (int_eq c said)) [
        | inl same ↦ (let e = rw same at is in cc)
        | inr other ↦
            (let e : ◌≡◌ {A = Option Fault} (Some (Jumps to own said c)) (Some (Jumps target base row code)) = rw other at is in
            let b : own ≡ base = cc in
            let r : said ≡ row = cc in
            let k : c ≡ code = cc in
            (ap Some k, cc, (rw (b, r) refl), b, subst (λ x. int_eq x row ≡ false) k (subst (λ x. int_eq c x ≡ false) r other)))
      ]
  jumped-from target own base row said code to None is = cc

  jump-from : (known : Known) (to : ℕ) (claim : Claim) (target : ℕ) (base : Base) (row code : ℤ)
      → fault_of_jump known to claim ≡ Some (Jumps target base row code)
      → (known_of known base ≡ Some code) × (to ≡ target) × (claim ≡ Above base row) × (int_eq code row ≡ false)
  jump-from known to (Above own said) target base row code is =
      let from = jumped-from target own base row said code to (known_of known own) is in
      (subst (λ x. known_of known x ≡ Some code) from.3 from.0, from.1, from.2, from.4)
  jump-from known to Other target base row code is = cc

  jump-of : (tracked : Tracked) (to : Option (ℕ × Claim)) (target : ℕ) (base : Base) (row code : ℤ)
      → jump_fault tracked to ≡ Some (Jumps target base row code)
      → (known_of tracked.known base ≡ Some code) × (to ≡ Some (target, Above base row)) × (int_eq code row ≡ false)
  jump-of tracked (Some t) target base row code is =
      let from = jump-from tracked.known t.0 t.1 target base row code is in
      (from.0, rw (← from.1, ← from.2) refl, from.3)
  jump-of tracked None target base row code is = cc

  jump-told : (before after : List Item) (tracked : Tracked) (i : Item) (address target : ℕ) (base : Base) (row code : ℤ)
      → items ≡ before ++ i ∷ after → Grounded (before ++ i ∷ []) tracked.known → i.address ≡ address
      → jump_fault tracked i.target ≡ Some (Jumps target base row code)
      → JumpContradicts items address target base row
  unfolding Grounded
  jump-told before after tracked i address target base row code list grounded at is =
      let from = jump-of tracked i.target target base row code is in
      let known = grounded base code from.0 in
      record {
        early = known.early;
        first = known.first;
        between = known.between;
        before = before;
        here = i;
        late = after;
        list = list ∙ (sym (append_assoc before (i ∷ []) after) ∙ ap (λ (xs : List Item). xs ++ after) known.list);
        last = sym known.list;
        at = at;
        says = from.1;
        never = never-both known.first known.between (Above base row) base row code known.tells refl from.2;
      }

  overwritten-told : (before after : List Item) (pass : Pass) (i : Item) (base : Base) (row : ℤ) → items ≡ before ++ i ∷ after
      → Preceded before pass.tracked → fault_at pass.tracked i.claim ≡ Some (Overwritten base row)
      → RowIsOverwritten items i.address base row
  unfolding Preceded
  overwritten-told before after pass i base row list preceded is =
      let from = stale-from pass.tracked i.claim base row is in
      let parts = and_parts (is_next pass.tracked.came && same_claim pass.tracked.claim i.claim) (is_lost pass.tracked i.claim) from.0 in
      let same = and_parts (is_next pass.tracked.came) (same_claim pass.tracked.claim i.claim) parts.0 in
      let l = preceded same.0 in
      let unknown = lost before pass.tracked base row l (subst (λ (c : Claim). is_lost pass.tracked c ≡ true) from.1 parts.1) in
      record {
        early = l.early;
        last = l.last;
        here = i;
        late = after;
        list = list ∙ (ap (λ (xs : List Item). xs ++ i ∷ after) l.list ∙ append_assoc l.early (l.last ∷ []) (i ∷ after));
        at = refl;
        said = sym l.claim ∙ (same-claims pass.tracked.claim i.claim same.1 ∙ from.1);
        says = from.1;
        untold = unknown;
        may = λ cfa s.
            subst (λ (c : Claim). (t : State) × Does l.last.effect s t × (Says c cfa t → ⊥)) (sym from.1)
            (leads-elsewhere l.last.effect base row cfa s unknown);
      }

  -- the alarm of a row, of a return and of a jump, if there is one
  of-row : (before after : List Item) (pass : Pass) (i : Item) (fault : Option Fault) → items ≡ before ++ i ∷ after
      → GroundedAt before pass.tracked → Preceded before pass.tracked → fault_at pass.tracked i.claim ≡ fault
      → AllByRecursion (HasMeaning entry items) (list_of (alarm_of i.address pass.before fault))
  of-row before after pass i None list grounded preceded is = tt
  of-row before after pass i (Some (Differs base row code)) list grounded preceded is =
      (row-told before after pass i i.address base row code list grounded refl is, tt)
  of-row before after pass i (Some (Overwritten base row)) list grounded preceded is =
      (overwritten-told before after pass i base row list preceded is, tt)
  of-row before after pass i (Some (Returns code)) list grounded preceded is = absurd (no-return pass.tracked i.claim code is)
  of-row before after pass i (Some (Jumps target base row code)) list grounded preceded is =
      absurd (no-jump pass.tracked i.claim target base row code is)

  of-jump : (before after : List Item) (tracked : Tracked) (i : Item) (fault : Option Fault) → items ≡ before ++ i ∷ after
      → Grounded (before ++ i ∷ []) tracked.known → jump_fault tracked i.target ≡ fault
      → AllByRecursion (HasMeaning entry items) (list_of (alarm_of i.address i.address fault))
  of-jump before after tracked i None list grounded is = tt
  of-jump before after tracked i (Some (Differs base row code)) list grounded is = absurd (no-row tracked i.target base row code is)
  of-jump before after tracked i (Some (Overwritten base row)) list grounded is = absurd (no-overwritten-jump tracked i.target base row is)
  of-jump before after tracked i (Some (Returns code)) list grounded is = absurd (no-return-jump tracked i.target code is)
  of-jump before after tracked i (Some (Jumps target base row code)) list grounded is =
      (jump-told before after tracked i i.address target base row code list grounded refl is, tt)

  -- a return where the row, or a run, tells another distance than the entry's
  return-told : (before after : List Item) (known : Known) (i : Item) (code : ℤ) → items ≡ before ++ i ∷ after
      → Grounded before known → known_of (agreed known i.claim) Sp ≡ Some code → i.effect.flow ≡ Return → int_eq code entry ≡ false
      → ReturnContradicts entry items i.address
  unfolding Grounded Tells
  return-told before after known i code list grounded has returns other =
      elim (agreed-from known i.claim Sp code has) [
        | inl old ↦
            (let knows = grounded Sp code old in
            record {
              early = knows.early;
              between = knows.first ∷ knows.between;
              here = i;
              late = after;
              list = list ∙ ap (λ (xs : List Item). xs ++ i ∷ after) knows.list;
              first = knows.first;
              rest = knows.between ++ i ∷ [];
              begins = refl;
              at = refl;
              returns = returns;
              never = λ cfa s t run one two.
                  let by_run = knows.tells cfa s t run one in
                  unequal code entry other (omega (arith, ints, by_run, two));
            })
        | inr own ↦
            record {
              early = before;
              between = [];
              here = i;
              late = after;
              list = list ∙ ap (λ (xs : List Item). xs ++ i ∷ after) (sym (append-nil before));
              first = i;
              rest = [];
              begins = refl;
              at = refl;
              returns = returns;
              never = λ cfa s t run one two.
                  let by_row = subst (λ (v : State). cfa ≡ v.sp +ℤ code) run (subst (λ (c : Claim). Says c cfa s) own one) in
                  unequal code entry other (omega (arith, ints, by_row, two));
            }
      ]

  of-returned : (before after : List Item) (known : Known) (i : Item) (last : ℕ) (sp : Option ℤ) → items ≡ before ++ i ∷ after
      → Grounded before known → known_of (agreed known i.claim) Sp ≡ sp → i.effect.flow ≡ Return
      → AllByRecursion (HasMeaning entry items) (list_of (alarm_of i.address last (returned entry sp)))
  of-returned before after known i last (Some code) list grounded has returns =
      elim (cases_Bool (int_eq code entry)) [
        | inl same ↦ rw same tt
        | inr other ↦ rw other (return-told before after known i code list grounded has returns other, tt)
      ]
  of-returned before after known i last None list grounded has returns = tt

  of-return : (before after : List Item) (known : Known) (i : Item) (last : ℕ) (flow : Flow) → items ≡ before ++ i ∷ after
      → Grounded before known → i.effect.flow ≡ flow
      → AllByRecursion (HasMeaning entry items) (list_of (alarm_of i.address last (fault_of_return entry (agreed known i.claim) flow)))
  of-return before after known i last Return list grounded is =
      of-returned before after known i last (agreed known i.claim).sp list grounded refl is
  of-return before after known i last Next list grounded is = tt
  of-return before after known i last Padding list grounded is = tt
  of-return before after known i last Call list grounded is = tt
  of-return before after known i last (Branch distance) list grounded is = tt
  of-return before after known i last (Jump distance) list grounded is = tt
  of-return before after known i last Leaves list grounded is = tt

  both : (xs ys : List Alarm) → AllByRecursion (HasMeaning entry items) xs → AllByRecursion (HasMeaning entry items) ys
      → AllByRecursion (HasMeaning entry items) (xs ++ ys)
  both [] ys one other = other
  both (x ∷ xs) ys one other = (one.0, both xs ys one.1 other)

  at-item : (before after : List Item) (pass : Pass) (i : Item) → items ≡ before ++ i ∷ after → GroundedAt before pass.tracked
      → Preceded before pass.tracked → AllByRecursion (HasMeaning entry items) (alarms_at entry pass i)
  unfolding alarms_at GroundedAt
  at-item before after pass i list grounded preceded =
      elim (cases_Bool (is_passed pass.tracked i.effect)) [
        | inl passed ↦ rw passed tt
        | inr looked ↦
            rw looked
            (both (list_of (row_alarm pass i) ++ list_of (return_alarm entry pass i)) (list_of (jump_alarm (step_of pass i) i))
            (both (list_of (row_alarm pass i)) (list_of (return_alarm entry pass i))
            (elim (cases_Bool (goes_on (difference (fault_at pass.tracked i.claim)) pass.differed)) [
              | inl same ↦ rw same tt
              | inr new ↦ rw new (of-row before after pass i (fault_at pass.tracked i.claim) list grounded preceded refl)
            ])
            (of-return before after (arriving pass.tracked i.claim) i pass.before i.effect.flow list (grounded i.claim) refl))
            (of-jump before after (step_of pass i) i (jump_fault (step_of pass i) i.target) list
            (grounded-after before i (arriving pass.tracked i.claim) (grounded i.claim)) refl))
      ]

  passed-elsewhere : (tracked : Tracked) (e : Effect) → is_passed tracked e ≡ true → is_elsewhere tracked.came ≡ true
  passed-elsewhere tracked e is = (and_parts (is_elsewhere tracked.came) (is_padding e.flow) is).0

  all-from : (after before : List Item) (pass : Pass) → items ≡ before ++ after → GroundedAt before pass.tracked
      → Preceded before pass.tracked → AllByRecursion (HasMeaning entry items) (alarms_from entry pass after)
  unfolding pass_after
  all-from [] before pass list grounded preceded = tt
  all-from (i ∷ after) before pass list grounded preceded =
      both (alarms_at entry pass i) (alarms_from entry (pass_after pass i) after) (at-item before after pass i list grounded preceded)
      (all-from after (before ++ i ∷ []) (pass_after pass i) (list ∙ sym (append_assoc before (i ∷ []) after))
      (elim (cases_Bool (is_passed pass.tracked i.effect)) [
        | inl passed ↦ rw passed (grounded-elsewhere (before ++ i ∷ []) pass.tracked (passed-elsewhere pass.tracked i.effect passed))
        | inr looked ↦ rw looked (grounded-step before i pass.tracked grounded)
      ])
      (elim (cases_Bool (is_passed pass.tracked i.effect)) [
        | inl passed ↦ rw passed (preceded-elsewhere (before ++ i ∷ []) pass.tracked (passed-elsewhere pass.tracked i.effect passed))
        | inr looked ↦ rw looked (preceded-step before i pass.tracked)
      ]))

  pub all-contradict : (start : ℕ) → AllByRecursion (HasMeaning entry items) (alarms_from entry (first_pass start) items)
  all-contradict start = all-from items [] (first_pass start) refl (grounded-elsewhere [] beginning refl) (preceded-elsewhere [] beginning refl)

-- ---- rows that are told nothing of

-- after any items what is known is told by a run
grounded-one : (before : List Item) (i : Item) (pass : Pass) → GroundedAt before pass.tracked
    → GroundedAt (before ++ i ∷ []) (pass_after pass i).tracked
unfolding pass_after
grounded-one before i pass grounded =
    elim (cases_Bool (is_passed pass.tracked i.effect)) [
      | inl passed ↦ rw passed (grounded-elsewhere (before ++ i ∷ []) pass.tracked (and_parts (is_elsewhere pass.tracked.came) (is_padding i.effect.flow) passed).0)
      | inr looked ↦ rw looked (grounded-step before i pass.tracked grounded)
    ]

grounded-through : (items before : List Item) (pass : Pass) → GroundedAt before pass.tracked
    → GroundedAt (before ++ items) (pass_through pass items).tracked
grounded-through [] before pass grounded = rw (append-nil before) grounded
grounded-through (i ∷ items) before pass grounded =
    rw (← append_assoc before (i ∷ []) items)
    (grounded-through items (before ++ i ∷ []) (pass_after pass i) (grounded-one before i pass grounded))

-- where nothing is told of a row, the code says what it says
agrees-by : (base : Base) (row code : ℤ) (stale : Bool) → fault_by base row stale (Some code) ≡ None → code ≡ row
agrees-by base row code stale none =
    elim (cases_Bool (int_eq code row)) [
      | inl same ↦ (Decides-int_eq code row).0 same
      | inr other ↦ (let e = rw other at none in cc)
    ]

pub agrees : (tracked : Tracked) (claim : Claim) (base : Base) (row code : ℤ) → claim ≡ Above base row
    → known_of (arriving tracked claim) base ≡ Some code → fault_at tracked claim ≡ None → code ≡ row
agrees tracked claim base row code is known none =
    let none2 = subst (λ (c : Claim). fault_at tracked c ≡ None) is none in
    let known2 = subst (λ (c : Claim). known_of (arriving tracked c) base ≡ Some code) is known in
    agrees-by base row code (is_stale tracked (Above base row)) (rw known2 at none2)

pub rows-follow : (start : ℕ) (items : List Item) → RowsFollow (first_pass start) items
unfolding GroundedAt Grounded Tells
rows-follow start items before after here base row code list is known none =
    let tracked = (pass_through (first_pass start) before).tracked in
    let knows = grounded-through before [] (first_pass start) (grounded-elsewhere [] beginning refl) here.claim base code known in
    let same = agrees tracked here.claim base row code is known none in
    record {
      early = knows.early;
      first = knows.first;
      between = knows.between;
      list = knows.list;
      follows = λ cfa s t run says. subst (λ (c : Claim). Says c cfa t) (sym is) (knows.tells cfa s t run says ∙ ap (λ x. value_of t base +ℤ x) same);
    }
