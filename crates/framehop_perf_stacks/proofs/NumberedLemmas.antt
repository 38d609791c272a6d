-- Which mappings the numbers of processes have, after a change.
use Rattle.std.proofs.Common.{◌≡◌, ◌⊎◌, inl, inr, ℕ, ◌+◌, ◌≤◌, Bool, true, false, cond, Option, Some, None, IfSome, Result, Ok, Err, OnOk, OnErr, List, refl, ap, sym, ◌∙◌, arith, true≢false}
use Rattle.std.specs.Prelude.{is_some, unwrap_or}
use Rattle.std.specs.BTreeMap.{BTreeMap, get, is_at, Updates}
use Rattle.std.specs.Cmp.{nat_cmp_is}
use Rattle.std.specs.Ordering.{nat_cmp, is_eq}
use Rattle.std.specs.declared.cmp.Ordering.TheVariants.{Less, Greater}
use Rattle.std.proofs.lemmas.Bool.{cases_order}
use Rattle.framehop_processes.specs.Process.{ProcessView}
use Rattle.framehop_processes.specs.declared.mapping.Mapping.{Mapping}
use Rattle.framehop_processes.specs.Mappings.{left_by, starting_elsewhere}
use Rattle.framehop_perf_stacks.specs.Processes.{LeadsTo, IsMadeOf, Tells, AreKnown, AreDrawn, HaveSame, AreMade, HaveReady, AreEarlier}
use Rattle.framehop_perf_stacks.specs.declared.processes.Exchange.{Exchange}
use Rattle.framehop_perf_stacks.specs.declared.processes.MadeOf.{MadeOf}
use Rattle.framehop_perf_stacks.specs.declared.processes.MappedProcess.{MappedProcess}
use Rattle.framehop_perf_stacks.specs.declared.processes.Version.{Version}

-- ---- what a map has

same-some : {A : Type 0} (x y : A) → Some x ≡ Some y → x ≡ y
same-some x y is = ap (λ found. unwrap_or found x) is

none-some : {A : Type 0} (x : A) → None ≡ Some x → ⊥
none-some x is = true≢false (sym (ap is_some is))

-- keys that are equal
same-key : (key other : ℕ) → is_at (nat_cmp key) other ≡ true → key ≡ other
same-key key other here = elim (cases_order key other) [
  | inl same ↦ same
  | inr (inl under) ↦ absurd (true≢false (sym here ∙ ap is_eq (sym (nat_cmp_is key other Less under))))
  | inr (inr over) ↦ absurd (true≢false (sym here ∙ ap is_eq (sym (nat_cmp_is key other Greater over))))
]

-- what was put, or what there was
put-one : {A : Type 0} (here : Bool) (x : A) (found other : Option A) (y : A) → other ≡ cond here (Some x) found → other ≡ Some y
    → ((here ≡ true) × (x ≡ y)) ⊎ (found ≡ Some y)
put-one true x found other y is at = inl (refl, same-some x y (sym is ∙ at))
put-one false x found other y is at = inr (sym is ∙ at)

get-same : {X : Type 0} (old new : BTreeMap ℕ X) (key : ℕ) → new.entries ≡ old.entries → get nat_cmp new key ≡ get nat_cmp old key
get-same old new key same = rw same refl

-- where a value may have been put at a key, each that is there is that one, or was there
abbrev pub AreAfterPut : {X : Type 0} → BTreeMap ℕ X → BTreeMap ℕ X → ℕ → X → Type 0
AreAfterPut {X} old new key value = (other : ℕ) (found : X) → get nat_cmp new other ≡ Some found
    → ((is_at (nat_cmp key) other ≡ true) × (value ≡ found)) ⊎ (get nat_cmp old other ≡ Some found)

-- nothing is elsewhere where nothing was
none-put : {X : Type 0} (here : Bool) (value : X) (found after : Option X) → after ≡ cond here (Some value) found → (here ≡ true → ⊥)
    → found ≡ None → after ≡ None
none-put true value found after is apart none = absurd (apart refl)
none-put false value found after is apart none = is ∙ none

module _ {X Y E : Type 0} (old new : BTreeMap ℕ X) (key : ℕ) (value : X) where
  pub after-put : (result : Result Y E) → OnOk result (Updates nat_cmp old new key (Some value))
      → OnErr result (new.entries ≡ old.entries) → AreAfterPut old new key value
  after-put (Ok done) updates kept other found at =
      put-one (is_at (nat_cmp key) other) value (get nat_cmp old other) (get nat_cmp new other) found (updates.0 other) at
  after-put (Err error) updates kept other found at = inr (sym (get-same old new other kept) ∙ at)

  pub none-after-put : (result : Result Y E) → OnOk result (Updates nat_cmp old new key (Some value))
      → OnErr result (new.entries ≡ old.entries) → (other : ℕ) → (is_at (nat_cmp key) other ≡ true → ⊥)
      → get nat_cmp old other ≡ None → get nat_cmp new other ≡ None
  none-after-put (Ok done) updates kept other apart none =
      none-put (is_at (nat_cmp key) other) value (get nat_cmp old other) (get nat_cmp new other) (updates.0 other) apart none
  none-after-put (Err error) updates kept other apart none = get-same old new other kept ∙ none

left-one : {A : Type 0} (here : Bool) (found other : Option A) (y : A) → other ≡ cond here None found → other ≡ Some y
    → found ≡ Some y
left-one true found other y is at = absurd (none-some y (sym is ∙ at))
left-one false found other y is at = sym is ∙ at

left-none : {A : Type 0} (here : Bool) (found other : Option A) → other ≡ cond here None found → found ≡ None → other ≡ None
left-none true found other is none = is
left-none false found other is none = is ∙ none

-- ---- where each process was one before, of some number

-- each process was one before
abbrev pub AreAmong : BTreeMap ℕ MappedProcess → BTreeMap ℕ MappedProcess → Type 0
AreAmong old new = (pid : ℕ) (process : MappedProcess) → get nat_cmp new pid ≡ Some process
    → (other : ℕ) × (get nat_cmp old other ≡ Some process)

-- each that is ready was before
abbrev pub AreReadyAmong : BTreeMap ℕ ProcessView → BTreeMap ℕ ProcessView → Type 0
AreReadyAmong old new = (number : ℕ) (made : ProcessView) → get nat_cmp new number ≡ Some made → get nat_cmp old number ≡ Some made

-- each version that is known was before
abbrev pub AreKnownAmong : BTreeMap ℕ MappedProcess → BTreeMap ℕ ProcessView → Version → BTreeMap ℕ MappedProcess → BTreeMap ℕ ProcessView → Version → Type 0
AreKnownAmong old ready latest new ready' latest' = (version : Version) (mappings : List Mapping)
    → AreKnown new ready' latest' version mappings → AreKnown old ready latest version mappings

pub known-among : (old new : BTreeMap ℕ MappedProcess) (ready ready' : BTreeMap ℕ ProcessView) (latest : Version) → AreAmong old new
    → AreReadyAmong ready ready' → AreKnownAmong old ready latest new ready' latest
known-among old new ready ready' latest among ready_among version mappings (inl (pid, at)) =
    inl (among pid (record { version = version; mappings = mappings }) at)
known-among old new ready ready' latest among ready_among version mappings (inr (is, made, at, are)) =
    inr (is, made, ready_among latest.number made at, are)

module _ (old new : BTreeMap ℕ MappedProcess) (ready ready' : BTreeMap ℕ ProcessView) (latest latest' : Version)
    (among : AreKnownAmong old ready latest new ready' latest') where
  pub drawn-among : (next after : ℕ) → next ≤ after → AreDrawn old ready latest next → AreDrawn new ready' latest' after
  drawn-among next after more drawn version mappings told number known tells =
      let low = drawn version mappings told number (among version mappings known) tells in
      omega (arith, low, more)

  pub same-among : HaveSame old ready latest → HaveSame new ready' latest'
  same-among same version other mappings others told told' number known known' tells tells' =
      same version other mappings others told told' number (among version mappings known) (among other others known') tells tells'

  pub made-among : AreMade old ready latest → AreMade new ready' latest'
  made-among made version mappings of known has = made version mappings of (among version mappings known) has

pub ready-among : (old new : BTreeMap ℕ MappedProcess) (ready ready' : BTreeMap ℕ ProcessView) → AreAmong old new
    → AreReadyAmong ready ready' → HaveReady old ready → HaveReady new ready'
ready-among old new ready ready' among ready_among have pid process made at at_made =
    let was = among pid process at in
    have was.0 process made was.1 (ready_among process.version.number made at_made)

-- nothing has changed
pub among-self : (processes : BTreeMap ℕ MappedProcess) → AreAmong processes processes
among-self processes pid process at = (pid, at)

pub ready-self : (ready : BTreeMap ℕ ProcessView) → AreReadyAmong ready ready
ready-self ready number made at = at

-- one of them has another number of a process, too
pub among-shared : (old new : BTreeMap ℕ MappedProcess) (key parent : ℕ) (shared : MappedProcess) → get nat_cmp old parent ≡ Some shared
    → AreAfterPut old new key shared → AreAmong old new
among-shared old new key parent shared is put pid process at = elim (put pid process at) [
  | inl same ↦ (parent, is ∙ ap (λ p. Some p) same.1)
  | inr was ↦ (pid, was)
]

pub earlier-later : (ready : BTreeMap ℕ ProcessView) (next after : ℕ) → next ≤ after → AreEarlier ready next → AreEarlier ready after
earlier-later ready next after more earlier number high = earlier number (omega (arith, high, more))

-- ---- where what is ready was taken out

-- each that is ready was before, where none is
pub ready-none : (ready ready' : BTreeMap ℕ ProcessView) → ((number : ℕ) → get nat_cmp ready' number ≡ None) → AreReadyAmong ready ready'
ready-none ready ready' none number made at = absurd (none-some made (sym (none number) ∙ at))

module _ (processes : BTreeMap ℕ MappedProcess) (ready ready' : BTreeMap ℕ ProcessView) (latest : Version) (next key : ℕ)
    (removed : (number : ℕ) → get nat_cmp ready' number ≡ cond (is_at (nat_cmp key) number) None (get nat_cmp ready number)) where
  ready-fewer : AreReadyAmong ready ready'
  ready-fewer number made at =
      left-one (is_at (nat_cmp key) number) (get nat_cmp ready number) (get nat_cmp ready' number) made (removed number) at

  pub known-fewer : AreKnownAmong processes ready latest processes ready' latest
  known-fewer = known-among processes processes ready ready' latest (among-self processes) ready-fewer

  pub have-fewer : HaveReady processes ready → HaveReady processes ready'
  have-fewer = ready-among processes processes ready ready' (among-self processes) ready-fewer

  pub earlier-fewer : AreEarlier ready next → AreEarlier ready' next
  earlier-fewer earlier number high =
      left-none (is_at (nat_cmp key) number) (get nat_cmp ready number) (get nat_cmp ready' number) (removed number) (earlier number high)

-- ---- where mappings were put under the next number

module _ (old new : BTreeMap ℕ MappedProcess) (ready : BTreeMap ℕ ProcessView) (latest : Version) (next : ℕ) (version : Version) (key : ℕ)
    (mappings : List Mapping) (numbered : version.number ≡ next)
    (put : AreAfterPut old new key (record { version = version; mappings = mappings }))
    (made_of : IfSome version.made_of (IsMadeOf old mappings)) (drawn : AreDrawn old ready latest next) where
  one-of : (pid : ℕ) (process : MappedProcess) → get nat_cmp new pid ≡ Some process
      → (record { version = version; mappings = mappings } ≡ process) ⊎ (get nat_cmp old pid ≡ Some process)
  one-of pid process at = elim (put pid process at) [
    | inl same ↦ inl same.1
    | inr was ↦ inr was
  ]

  known-put : (v : Version) (ms : List Mapping) → AreKnown new ready latest v ms
      → ((version ≡ v) × (mappings ≡ ms)) ⊎ AreKnown old ready latest v ms
  known-put v ms (inl (pid, at)) = elim (one-of pid (record { version = v; mappings = ms }) at) [
    | inl same ↦ inl (ap (λ (p : MappedProcess). p.version) same, ap (λ (p : MappedProcess). p.mappings) same)
    | inr was ↦ inr (inl (pid, was))
  ]
  known-put v ms (inr late) = inr (inr late)

  -- what is told of a number is told of the new one, or was told before
  abbrev ToldBefore : ℕ → List Mapping → Type 0
  ToldBefore number told = ((number ≡ next) × (told ≡ mappings))
      ⊎ ((v : Version) × (ms : List Mapping) × AreKnown old ready latest v ms × Tells v ms number told)

  new-tells : (number : ℕ) (told : List Mapping) → Tells version mappings number told → ToldBefore number told
  new-tells number told (inl (is, are)) = inl (is ∙ numbered, are)
  new-tells number told (inr (of, has, is, are)) =
      let from = (rw has at made_of).1 in
      let process : MappedProcess = from.1 in
      inr (process.version, process.mappings, inl (from.0, from.2), inl (is ∙ sym from.3, are ∙ sym from.4))

  told-put : (v : Version) (ms told : List Mapping) (number : ℕ) → AreKnown new ready latest v ms → Tells v ms number told → ToldBefore number told
  told-put v ms told number known tells = elim (known-put v ms known) [
    | inl same ↦ new-tells number told (rw (same.0, same.1) tells)
    | inr was ↦ inr (v, ms, was, tells)
  ]

  pub drawn-put : (after : ℕ) → after ≡ next + 1 → AreDrawn new ready latest after
  drawn-put after more v ms told number known tells = elim (told-put v ms told number known tells) [
    | inl own ↦ let is = own.0 in omega (arith, is, more)
    | inr was ↦ let low = drawn was.0 was.1 told number was.2 was.3 in omega (arith, low, more)
  ]

  pub same-put : HaveSame old ready latest → HaveSame new ready latest
  same-put same v w ms ns told told' number known known' tells tells' = elim (told-put v ms told number known tells) [
    | inl own ↦ elim (told-put w ns told' number known' tells') [
      | inl too ↦ own.1 ∙ sym too.1
      | inr was ↦ absurd (
          let is = own.0 in
          let low = drawn was.0 was.1 told' number was.2 was.3 in
          omega (arith, is, low))
    ]
    | inr was ↦ elim (told-put w ns told' number known' tells') [
      | inl too ↦ absurd (
          let is = too.0 in
          let low = drawn was.0 was.1 told number was.2 was.3 in
          omega (arith, is, low))
      | inr other ↦ same was.0 other.0 was.1 other.1 told told' number was.2 other.2 was.3 other.3
    ]
  ]

  pub made-put : AreMade old ready latest → AreMade new ready latest
  made-put made v ms of known has = elim (known-put v ms known) [
    | inl same ↦
        let own : IsMadeOf old mappings of = rw (ap (λ (w : Version). w.made_of) same.0 ∙ has) at made_of in
        rw (← same.1) own.0
    | inr was ↦ made v ms of was has
  ]

  pub ready-put : AreEarlier ready next → HaveReady old ready → HaveReady new ready
  ready-put earlier have pid process made at at_made = elim (one-of pid process at) [
    | inl same ↦
        let is = ap (λ (p : MappedProcess). p.version.number) same in
        absurd (none-some made (sym (earlier process.version.number (omega (arith, is, numbered))) ∙ at_made))
    | inr was ↦ have pid process made was at_made
  ]

-- ---- where a process was kept as the one of a number

module _ (processes : BTreeMap ℕ MappedProcess) (ready ready' : BTreeMap ℕ ProcessView) (latest : Version) (next pid : ℕ) (version : Version)
    (kept : ProcessView) (is : get nat_cmp processes pid ≡ Some (record { version = version; mappings = kept.mappings })) where
  abbrev mine : MappedProcess
  mine = record { version = version; mappings = kept.mappings }

  pub ready-kept : AreAfterPut ready ready' version.number kept → HaveSame processes ready latest → HaveReady processes ready
      → HaveReady processes ready'
  ready-kept put same have other process made at at_made = elim (put process.version.number made at_made) [
    | inl new ↦
        ap (λ (p : ProcessView). p.mappings) (sym new.1)
        ∙ same version process.version kept.mappings process.mappings kept.mappings process.mappings version.number
        (inl (pid, is)) (inl (other, at)) (inl (refl, refl)) (inl (same-key version.number process.version.number new.0, refl))
    | inr was ↦ have other process made at was
  ]

  pub known-kept : HaveReady processes ready' → AreKnownAmong processes ready latest processes ready' version
  known-kept have v ms (inl there) = inl there
  known-kept have v ms (inr (same, made, at, are)) =
      let mapped : ms ≡ kept.mappings = are ∙ have pid mine made is at in
      inl (pid, rw (same, mapped) is)

  pub earlier-kept : ((other : ℕ) → (is_at (nat_cmp version.number) other ≡ true → ⊥) → get nat_cmp ready other ≡ None → get nat_cmp ready' other ≡ None)
      → AreDrawn processes ready latest next → AreEarlier ready next → AreEarlier ready' next
  earlier-kept nones drawn earlier other high =
      nones other (λ here.
      let same = same-key version.number other here in
      let low = drawn version kept.mappings kept.mappings version.number (inl (pid, is)) (inl (refl, refl)) in
      omega (arith, same, low, high)) (earlier other high)

-- ---- what an exchange leads to

pub exchange-leads : (processes : BTreeMap ℕ MappedProcess) (ready : BTreeMap ℕ ProcessView) (latest version : Version) (old new : List Mapping)
    (exchange : Exchange) (of : MadeOf) → HaveSame processes ready latest → AreMade processes ready latest
    → AreKnown processes ready latest latest old → AreKnown processes ready latest version new → version.made_of ≡ Some of
    → exchange.come ≡ of.mapping → Tells latest old of.number (left_by exchange.gone old) → LeadsTo exchange old new
exchange-leads processes ready latest version old new exchange of same made known known' has come tells =
    let others = starting_elsewhere of.mapping.start new in
    let left : left_by exchange.gone old ≡ others =
    same latest version old new (left_by exchange.gone old) others of.number known known' tells (inr (of, has, refl, refl)) in
    rw (left, come) (made version new of known' has)

-- where the last process that was made ready is given
pub exchange-leads-if : (processes : BTreeMap ℕ MappedProcess) (ready : BTreeMap ℕ ProcessView) (latest version : Version) (new : List Mapping)
    (near : Option ProcessView) (exchange : Option Exchange) → HaveSame processes ready latest → AreMade processes ready latest
    → AreKnown processes ready latest version new → IfSome near (λ p. get nat_cmp ready latest.number ≡ Some p)
    → IfSome exchange (λ e. (of : MadeOf) × (version.made_of ≡ Some of) × (e.come ≡ of.mapping)
    × ((mappings : List Mapping) → Tells latest mappings of.number (left_by e.gone mappings)))
    → IfSome near (λ p. IfSome exchange (λ e. LeadsTo e p.mappings new))
exchange-leads-if processes ready latest version new (Some p) (Some e) same made known at told =
    exchange-leads processes ready latest version p.mappings new e told.0 same made (inr (refl, p, at, refl)) known told.1 told.2 (told.3 p.mappings)
exchange-leads-if processes ready latest version new (Some p) None same made known at told = tt
exchange-leads-if processes ready latest version new None exchange same made known at told = tt
