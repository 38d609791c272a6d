-- Where nothing is told and nothing believed, what is known at an instruction is true on each run to it.
use Rattle.std.proofs.Common.{◌≡◌, ℕ, zero, suc, ℤ, ◌+ℤ◌, Bool, true, false, List, [], ◌∷◌, ◌++◌, Option, Some, None, refl, sym, ap, subst, ◌∙◌, inl, inr}
use Rattle.std.proofs.lemmas.Bool.{cases_Bool, and_parts}
use Rattle.framehop_code.specs.Effect.{State, value_of, Becomes, Does, is_away}
use Rattle.framehop_code.specs.declared.effect.Base.{Base}
use Rattle.framehop_code.specs.declared.effect.Base.TheVariants.{Sp, Fp}
use Rattle.framehop_code.specs.declared.effect.Change.{Change}
use Rattle.framehop_code.specs.declared.effect.Effect.{Effect}
use Rattle.framehop_code.specs.declared.effect.Flow.{Flow}
use Rattle.framehop_code.specs.declared.effect.Flow.TheVariants.{Next, Padding, Call, Branch, Jump, Return, Leaves}
use Rattle.framehop_check.specs.declared.claim.Claim.{Claim}
use Rattle.framehop_check.specs.declared.claim.Claim.TheVariants.{Above, Other}
use Rattle.framehop_check.specs.declared.check.Item.{Item}
use Rattle.framehop_check.specs.declared.check.Pass.{Pass}
use Rattle.framehop_check.specs.declared.known.Known.{Known}
use Rattle.framehop_check.specs.declared.report.Alarm.{Alarm}
use Rattle.framehop_check.specs.declared.tracked.Came.{Came}
use Rattle.framehop_check.specs.declared.tracked.Came.TheVariants as came
use Rattle.framehop_check.specs.declared.tracked.Tracked.{Tracked}
use Rattle.framehop_check.specs.declared.tracked.Fault.{Fault}
use Rattle.framehop_check.specs.Claim.{Says}
use Rattle.framehop_check.specs.Known.{nothing, known_of, after, agreed_on, agreed}
use Rattle.framehop_check.specs.Tracked.{arriving_by, arriving, same_claim, fault_at, came_after, is_elsewhere, is_padding, is_passed}
use Rattle.framehop_check.specs.Report.{list_of}
use Rattle.framehop_check.specs.Check.{goes_on, difference, alarm_of, row_alarm, return_alarm, jump_alarm, step_of, alarms_at, pass_after, alarms_from, first_pass}
use Rattle.framehop_check.specs.Contradiction.{change_of, pass_through}
use Rattle.framehop_check.specs.Quiet.{Place, Falls, JumpsTo, Run, AreRight, pass_at, IsPassed, known_before, known_at, BelievesNothing, IsQuiet}
use Rattle.framehop_check.proofs.ContradictionLemmas.{becomes, moved, change-from, known-after, none-of-nothing, some-same, agrees}

-- ---- what is known is true

-- each distance that is known is the CFA's
Holds : Known → ℤ → State → Type 0
Holds known cfa s = (base : Base) (offset : ℤ) → known_of known base ≡ Some offset → cfa ≡ value_of s base +ℤ offset

holds-nothing : (cfa : ℤ) (s : State) → Holds nothing cfa s
unfolding Holds
holds-nothing cfa s base offset is = absurd (none-of-nothing base offset is)

holds-after : (known : Known) (e : Effect) (cfa : ℤ) (s t : State) → Holds known cfa s → Does e s t → Holds (after known e) cfa t
unfolding Holds
holds-after known e cfa s t holds does to offset has =
    let from = change-from known (change_of e to) offset (sym (known-after known e to) ∙ has) in
    subst (λ (x : ℤ). cfa ≡ value_of t to +ℤ x) (sym from.5)
    (moved cfa (value_of s from.0) (value_of t to) from.2 from.1 (holds from.0 from.2 from.4)
    (subst (λ (c : Change). Becomes c s (value_of t to)) from.3 (becomes e s t does to)))

holds-by : (c : Came) (known : Known) (same : Bool) (cfa : ℤ) (s : State) → Holds known cfa s → Holds (arriving_by c known same) cfa s
holds-by came.Next known same cfa s holds = holds
holds-by came.Returned known true cfa s holds = holds
holds-by came.Returned known false cfa s holds = holds-nothing cfa s
holds-by came.Elsewhere known same cfa s holds = holds-nothing cfa s

-- a row of whose register nothing new is learnt keeps what is known
holds-agreed : (known : Known) (claim : Claim) (cfa : ℤ) (s : State) → Holds known cfa s
    → ((base : Base) (row : ℤ) → claim ≡ Above base row → (code : ℤ) × (known_of known base ≡ Some code))
    → Holds (agreed known claim) cfa s
holds-agreed known Other cfa s holds has = holds-nothing cfa s
holds-agreed known (Above base row) cfa s holds has =
    let found = has base row refl in
    subst (λ (k : Known). Holds k cfa s) (sym (ap (agreed_on known base row) found.1)) holds

-- ---- where nothing is told

no-first : (xs ys : List Alarm) → xs ++ ys ≡ [] → (xs ≡ []) × (ys ≡ [])
no-first [] ys is = (refl, is)
no-first (x ∷ xs) ys is = cc

no-alarm : (address before : ℕ) (fault : Option Fault) → list_of (alarm_of address before fault) ≡ [] → fault ≡ None
no-alarm address before None is = refl
no-alarm address before (Some fault) is = cc

not-on : (d : Option ℤ) → goes_on d None ≡ false
not-on (Some one) = refl
not-on None = refl

no-row-alarm : (pass : Pass) (i : Item) → pass.differed ≡ None → list_of (row_alarm pass i) ≡ [] → fault_at pass.tracked i.claim ≡ None
no-row-alarm pass i none is =
    let off : goes_on (difference (fault_at pass.tracked i.claim)) pass.differed ≡ false =
    subst (λ (d : Option ℤ). goes_on (difference (fault_at pass.tracked i.claim)) d ≡ false) (sym none) (not-on (difference (fault_at pass.tracked i.claim))) in
    no-alarm i.address pass.before (fault_at pass.tracked i.claim) (rw off at is)

-- at an instruction that is looked at its row differs from nothing
here-silent : (entry : ℤ) (pass : Pass) (i : Item) → pass.differed ≡ None → is_passed pass.tracked i.effect ≡ false
    → alarms_at entry pass i ≡ [] → fault_at pass.tracked i.claim ≡ None
unfolding alarms_at
here-silent entry pass i none looked is =
    let told = rw looked at is in
    let one = no-first (list_of (row_alarm pass i) ++ list_of (return_alarm entry pass i)) (list_of (jump_alarm (step_of pass i) i)) told in
    let two = no-first (list_of (row_alarm pass i)) (list_of (return_alarm entry pass i)) one.0 in
    no-row-alarm pass i none two.0

still-none : (entry : ℤ) (pass : Pass) (i : Item) → pass.differed ≡ None → alarms_at entry pass i ≡ [] → (pass_after pass i).differed ≡ None
unfolding pass_after
still-none entry pass i none is =
    elim (cases_Bool (is_passed pass.tracked i.effect)) [
      | inl passed ↦ rw passed none
      | inr looked ↦ rw looked (ap difference (here-silent entry pass i none looked is))
    ]

silent : (entry : ℤ) (before after : List Item) (pass : Pass) (i : Item) → pass.differed ≡ None
    → alarms_from entry pass (before ++ i ∷ after) ≡ [] → is_passed (pass_through pass before).tracked i.effect ≡ false
    → fault_at (pass_through pass before).tracked i.claim ≡ None
silent entry [] after pass i none is looked =
    here-silent entry pass i none looked (no-first (alarms_at entry pass i) (alarms_from entry (pass_after pass i) after) is).0
silent entry (j ∷ before) after pass i none is looked =
    let parts = no-first (alarms_at entry pass j) (alarms_from entry (pass_after pass j) (before ++ i ∷ after)) is in
    silent entry before after (pass_after pass j) i (still-none entry pass j none parts.0) parts.1 looked

-- ---- runs

through-one : (pass : Pass) (before : List Item) (i : Item) → pass_through pass (before ++ i ∷ []) ≡ pass_after (pass_through pass before) i
through-one pass [] i = refl
through-one pass (j ∷ before) i = through-one (pass_after pass j) before i

-- an instruction that goes on does not lead elsewhere
never-elsewhere : (c : Came) (flow : Flow) → is_away flow ≡ false → is_elsewhere (came_after c flow) ≡ false
never-elsewhere c Next goes = refl
never-elsewhere came.Next Padding goes = refl
never-elsewhere came.Returned Padding goes = refl
never-elsewhere came.Elsewhere Padding goes = refl
never-elsewhere c Call goes = refl
never-elsewhere c (Branch distance) goes = refl
never-elsewhere c (Jump distance) goes = cc
never-elsewhere c Return goes = cc
never-elsewhere c Leaves goes = cc

not-true : (b : Bool) → (b ≡ true → ⊥) → b ≡ false
not-true true never = absurd (never refl)
not-true false never = refl

true-or-false : (b : Bool) → b ≡ false → b ≡ true → ⊥
true-or-false true is other = cc
true-or-false false is other = cc

module _ (entry : ℤ) (start : ℕ) (items : List Item) (told : alarms_from entry (first_pass start) items ≡ [])
    (believes : BelievesNothing (first_pass start) items) where
  -- the row of an instruction that is looked at is among what is known there
  row-known : (p : Place items) (base : Base) (row : ℤ) → (IsPassed (first_pass start) p → ⊥) → p.here.claim ≡ Above base row
      → known_of (known_at (first_pass start) p) base ≡ Some row
  row-known p base row looked is =
      let quiet = silent entry p.before p.after (first_pass start) p.here refl
      (subst (λ (xs : List Item). alarms_from entry (first_pass start) xs ≡ []) p.list told)
      (not-true (is_passed (pass_at (first_pass start) p).tracked p.here.effect) looked) in
      subst (λ (c : Claim). known_of (agreed (known_before (first_pass start) p) c) base ≡ Some row) (sym is)
      (by-found (known_before (first_pass start) p) base row (known_of (known_before (first_pass start) p) base) refl
      (λ code known. agrees (pass_at (first_pass start) p).tracked p.here.claim base row code is known quiet))
    where
      own-row : (known : Known) (base : Base) (row : ℤ) → known_of (agreed_on known base row None) base ≡ Some row
      own-row known Sp row = refl
      own-row known Fp row = refl

      by-found : (known : Known) (base : Base) (row : ℤ) (found : Option ℤ) → known_of known base ≡ found
          → ((code : ℤ) → known_of known base ≡ Some code → code ≡ row) → known_of (agreed_on known base row found) base ≡ Some row
      by-found known base row (Some code) is same = is ∙ ap Some (same code is)
      by-found known base row None is same = own-row known base row

  -- at an instruction that a run has come to
  Stands : Place items → ℤ → State → Type 0
  Stands p cfa s = (IsPassed (first_pass start) p → ⊥) × Holds (known_at (first_pass start) p) cfa s

  stands-next : (p q : Place items) (cfa : ℤ) (s t : State) → Stands p cfa s → Does p.here.effect s t → Falls p q → Stands q cfa t
  unfolding Stands pass_after
  stands-next p q cfa s t stands does falls =
      let pass = pass_at (first_pass start) p in
      let looked = not-true (is_passed pass.tracked p.here.effect) stands.0 in
      let through : pass_at (first_pass start) q ≡ pass_after pass p.here =
      ap (pass_through (first_pass start)) falls.next ∙ through-one (first_pass start) p.before p.here in
      let stepped : (pass_at (first_pass start) q).tracked ≡ step_of pass p.here =
      ap (λ (x : Pass). x.tracked) through ∙ (rw looked refl) in
      let held = holds-after (known_at (first_pass start) p) p.here.effect cfa s t stands.1 does in
      let arrives : Holds (known_before (first_pass start) q) cfa t =
      subst (λ (x : Tracked). Holds (arriving x q.here.claim) cfa t) (sym stepped)
      (holds-by (step_of pass p.here).came (step_of pass p.here).known (same_claim p.here.claim q.here.claim) cfa t held) in (
        (λ passed.
            let parts = and_parts (is_elsewhere (pass_at (first_pass start) q).tracked.came) (is_padding q.here.effect.flow) passed in
            true-or-false (is_elsewhere (pass_at (first_pass start) q).tracked.came)
            (subst (λ (x : Tracked). is_elsewhere x.came ≡ false) (sym stepped) (never-elsewhere pass.tracked.came p.here.effect.flow falls.goes))
            parts.0),
        holds-agreed (known_before (first_pass start) q) q.here.claim cfa t arrives
            (λ base row is. believes.falls p q base row stands.0 falls is),
      )

  stands-target : (p q : Place items) (cfa : ℤ) (s t : State) → Stands p cfa s → Does p.here.effect s t → JumpsTo p q → Stands q cfa t
  unfolding Stands Holds
  stands-target p q cfa s t stands does jumps =
      let held = holds-after (known_at (first_pass start) p) p.here.effect cfa s t stands.1 does in
      (believes.lands p q stands.0 jumps, λ base offset has. held base offset (believes.jumps p q base offset stands.0 jumps has))

  stands-after : (count : ℕ) (p q : Place items) (cfa : ℤ) (s t : State) → Stands p cfa s → Run count p s q t → Stands q cfa t
  stands-after zero p q cfa s t stands run =
      subst (λ (x : Place items). Stands x cfa t) run.0 (subst (λ (v : State). Stands p cfa v) run.1 stands)
  stands-after (suc count) p q cfa s t stands run =
      stands-after count run.0 q cfa run.1 t
      (elim run.2 [
        | inl falls ↦ stands-next p run.0 cfa s run.1 stands run.3 falls
        | inr jumps ↦ stands-target p run.0 cfa s run.1 stands run.3 jumps
      ])
      run.4

  -- where a function begins its row is believed
  stands-first : (p : Place items) (s : State) → p.before ≡ [] → p.here.claim ≡ Above Sp entry → Stands p (s.sp +ℤ entry) s
  unfolding Stands Holds
  stands-first p s first is = (
    believes.begins p first,
    λ base offset has.
        at-first base offset
        (subst (λ (c : Claim). known_of (agreed nothing c) base ≡ Some offset) is
        (subst (λ (xs : List Item). known_of (agreed (arriving (pass_through (first_pass start) xs).tracked p.here.claim) p.here.claim) base ≡ Some offset) first has)),
  )
    where
      at-first : (base : Base) (offset : ℤ) → known_of (agreed nothing (Above Sp entry)) base ≡ Some offset → s.sp +ℤ entry ≡ value_of s base +ℤ offset
      at-first Sp offset has = ap (λ (x : ℤ). s.sp +ℤ x) (some-same entry offset has)
      at-first Fp offset has = cc

  says-by : (p : Place items) (cfa : ℤ) (s : State) (claim : Claim) → p.here.claim ≡ claim → Stands p cfa s → Says claim cfa s
  unfolding Stands Holds
  says-by p cfa s (Above base row) is stands = stands.1 base row (row-known p base row stands.0 is)
  says-by p cfa s Other is stands = tt

  pub are-right : AreRight entry items
  are-right p q count s t first is run =
      says-by q (s.sp +ℤ entry) t q.here.claim refl (stands-after count p q (s.sp +ℤ entry) s t (stands-first p s first is) run)

pub is-quiet : (entry : ℤ) (start : ℕ) (items : List Item) → IsQuiet entry (first_pass start) items
is-quiet entry start items told believes = are-right entry start items told believes
