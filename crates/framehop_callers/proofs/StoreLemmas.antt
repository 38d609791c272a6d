-- Memory that agreed before a write agrees after it.
use Rattle.std.proofs.Common.{◌≡◌, ℕ, Bool, true, false, ◌&&◌, inl, inr, List, [], ◌∷◌, ◌++◌, Option, Some, None, refl, ap, sym, ◌∙◌, subst}
use Rattle.std.proofs.lemmas.Bool.{cases_Bool, eqb-true}
use Rattle.std.proofs.lemmas.List.Sums.{fold-append}
use Rattle.std.specs.Prelude.{◌==◌, IfSome, not}
use Rattle.std.specs.List.{filter, fold}
use Rattle.framehop_core.specs.Memory.{Memory}
use Rattle.framehop_callers.specs.declared.known.Write.{Write}
use Rattle.framehop_callers.specs.Known.{meet, is_at, touches, said, written, unwritten, known_by, loaded}
use Rattle.framehop_callers.specs.Machine.{IsWrite}
use Rattle.framehop_callers.specs.Sound.{Remembers}

left-of : (x y : Bool) → (x && y) ≡ true → x ≡ true
left-of true y both = refl
left-of false y both = both

right-of : (x y : Bool) → (x && y) ≡ true → y ≡ true
right-of true y both = both
right-of false y both = cc

at-address : (w : Write) (a s : ℕ) → is_at w a s ≡ true → w.address ≡ a
at-address w a s here = eqb-true w.address a (left-of (w.address == a) (w.bytes == s) here)

at-size : (w : Write) (a s : ℕ) → is_at w a s ≡ true → w.bytes ≡ s
at-size w a s here = eqb-true w.bytes s (right-of (w.address == a) (w.bytes == s) here)

said-apart : (a s : ℕ) (before : Option (Option ℕ)) (w : Write) → is_at w a s ≡ false → touches w a s ≡ false → said a s before w ≡ before
said-apart a s before w not-here apart = rw not-here (rw apart refl)

-- the writes without those to some bytes say the same of bytes elsewhere
without : (a s b t : ℕ) (writes : List Write) (before : Option (Option ℕ)) → ((a == b) && (s == t)) ≡ false → meet a s b t ≡ false
    → fold (said b t) before (filter (λ write. not (is_at write a s)) writes) ≡ fold (said b t) before writes
without a s b t [] before not-same apart = refl
without a s b t (w ∷ ws) before not-same apart =
    elim (cases_Bool (is_at w a s)) [
      | inl here ↦
          let address : w.address ≡ a = at-address w a s here in
          let size : w.bytes ≡ s = at-size w a s here in
          let not-here : is_at w b t ≡ false = subst (λ (x : ℕ). ((x == b) && (w.bytes == t)) ≡ false) (sym address) (subst (λ (x : ℕ). ((a == b) && (x == t)) ≡ false) (sym size) not-same) in
          let untouched : touches w b t ≡ false = subst (λ (x : ℕ). meet x w.bytes b t ≡ false) (sym address) (subst (λ (x : ℕ). meet a x b t ≡ false) (sym size) apart) in
          rw here (without a s b t ws before not-same apart ∙ sym (ap (λ (x : Option (Option ℕ)). fold (said b t) x ws) (said-apart b t before w not-here untouched)))
      | inr elsewhere ↦ rw elsewhere (without a s b t ws (said b t before w) not-same apart)
    ]

after-one : (writes : List Write) (w : Write) (b t : ℕ) → written (writes ++ w ∷ []) b t ≡ said b t (written writes b t) w
after-one writes w b t = fold-append (said b t) None writes (w ∷ [])

some-value : (value : Option ℕ) (number v : ℕ) → value ≡ Some v → IfSome value (λ told. number ≡ told) → number ≡ v
some-value None number v is told = cc
some-value (Some x) number v is told = cc

pub remembers-after : (memory : Memory) (writes : List Write) (a s : ℕ) (value : Option ℕ) (before now : ℕ → ℕ → ℕ) → Remembers memory writes before
    → IsWrite a s before now → IfSome value (λ number. now a s ≡ number)
    → Remembers memory (filter (λ write. not (is_at write a s)) writes ++ record { address = a; bytes = s; value = value } ∷ []) now
remembers-after memory writes a s value before now agrees write told b t v is =
    let w : Write = record { address = a; bytes = s; value = value } in
    let rest : List Write = filter (λ write. not (is_at write a s)) writes in
    let last : known_by (unwritten memory b t) (said b t (written rest b t) w) ≡ Some v =
    subst (λ (x : Option (Option ℕ)). known_by (unwritten memory b t) x ≡ Some v) (after-one rest w b t) is in
    elim (cases_Bool ((a == b) && (s == t))) [
      | inl here ↦
          let address : a ≡ b = eqb-true a b (left-of (a == b) (s == t) here) in
          let size : s ≡ t = eqb-true s t (right-of (a == b) (s == t) here) in
          let given : value ≡ Some v = rw here at last in
          subst (λ (x : ℕ). now x t ≡ v) address (subst (λ (x : ℕ). now a x ≡ v) size (some-value value (now a s) v given told))
      | inr not-here ↦ elim (cases_Bool (meet a s b t)) [
        | inl touched ↦ (let none : None ≡ Some v = rw touched at (rw not-here at last) in cc)
        | inr apart ↦
            let same : known_by (unwritten memory b t) (written rest b t) ≡ Some v = rw apart at (rw not-here at last) in
            let kept : loaded memory writes b t ≡ Some v =
            subst (λ (x : Option (Option ℕ)). known_by (unwritten memory b t) x ≡ Some v) (without a s b t writes None not-here apart) same in
            write b t apart ∙ agrees b t v kept
      ]
    ]
