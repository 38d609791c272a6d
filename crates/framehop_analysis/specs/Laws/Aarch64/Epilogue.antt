-- The rule of an epilogue on aarch64, constructed with the proof that it is the only one.
use Rattle.std.proofs.Common.{◌≡◌, ◌≢◌, ◌⊎◌, inl, inr, ℕ, zero, suc, ◌+◌, ◌-◌, ◌*◌, ◌<◌, ◌≤◌, ℤ, pos, Bool, true, false, cond, ◌||◌, nat_lt, nat_le, List, [], ◌∷◌, ◌++◌, length, Option, Some, None, refl, sym, ap, ap₂, ◌∙◌, arith, below_more}
use Rattle.std.proofs.lemmas.Bool.Decides.{nat_tests}
use Rattle.std.proofs.lemmas.Int.{ints}
use Rattle.framehop_core.specs.declared.aarch64.unwind_rule.UnwindRuleAarch64.{UnwindRuleAarch64}
use Rattle.framehop_core.specs.declared.aarch64.unwind_rule.UnwindRuleAarch64.TheVariants.{NoOp, OffsetSp, OffsetSpAndRestoreLr, OffsetSpAndRestoreFpAndLr}
use Rattle.framehop_analysis.specs.Answer.{Decided}
use Rattle.framehop_analysis.specs.Aarch64.Words.{word_at, AreWordsAt, is_return, is_b, is_br, is_braa, is_mov}
use Rattle.framehop_analysis.specs.Aarch64.Units.{IsUnitsOf16}
use Rattle.framehop_analysis.specs.Aarch64.Epilogue.{Places, at_pc, is_restoring, places_after, check_words, IsAuthenticatedCall, by_b, by_braa, returns, branches, calls, moves_sp, IsInsideCallAfter, IsInsideCall, IsAtTailCall, IsRestored, inside_call, at_tail_call, IsPlaceInWords, IsRuleOfPlaces, IsRestOfEpilogue, IsEpilogueRule, restored, restores}
use Rattle.framehop_analysis.specs.Laws.Answer.{only-map, Decidable, Passes, decidable-map, decidable-and, decidable-or, true-decidable, le-decidable, is-decidable, passes-decidable}
use Rattle.framehop_analysis.specs.Laws.Aarch64.Units.{units_of_16-decided, units_of_8-decided}
use Rattle.framehop_analysis.specs.Laws.Aarch64.Prologue.{none-decidable}
use Rattle.framehop_analysis.specs.Laws.Aarch64.Calls.{moved, call-by_b, call-by_braa}
use Rattle.framehop_analysis.specs.Laws.Aarch64.Ends.{Ends, inside-iff, not-inside, inside-short, rest-forward, rest-back, rest-end, end-rest}

-- ---- authenticated calls

-- an authenticated call at an offset
abbrev Call : List ℕ → ℕ → Type 0
Call text start = (words : List ℕ) × AreWordsAt text start words × IsAuthenticatedCall words

words-decidable : (text : List ℕ) (at : ℕ) (words : List ℕ) → Decidable (AreWordsAt text at words)
words-decidable text at [] = inl tt
words-decidable text at (word ∷ words) =
    decidable-and (is-decidable (word_at text at) word) (words-decidable text (at + 4) words)

-- the words of a call
check-of : (text : List ℕ) (start : ℕ) → Call text start → AreWordsAt text start check_words
check-of text start (words, stands, by_b b is e) =
    let s = moved text start words (check_words ++ b ∷ []) e stands in (s.0, (s.1.0, (s.1.1.0, (s.1.1.1.0, tt))))
check-of text start (words, stands, by_braa mov braa is later e) =
    let s = moved text start words (check_words ++ mov ∷ braa ∷ []) e stands in
    (s.0, (s.1.0, (s.1.1.0, (s.1.1.1.0, tt))))

-- what comes after the check: `b`, or `mov` and `braa`
abbrev Tail : List ℕ → ℕ → Type 0
Tail text at =
    Passes (word_at text at) is_b ⊎ (Passes (word_at text at) is_mov × Passes (word_at text (at + 4)) is_braa)

tail-of : (text : List ℕ) (start : ℕ) → Call text start → Tail text (start + 4 + 4 + 4 + 4)
tail-of text start (words, stands, by_b b is e) =
    let s = moved text start words (check_words ++ b ∷ []) e stands in inl (b, s.1.1.1.1.0, is)
tail-of text start (words, stands, by_braa mov braa is later e) =
    let s = moved text start words (check_words ++ mov ∷ braa ∷ []) e stands in
    inr ((mov, s.1.1.1.1.0, is), (braa, s.1.1.1.1.1.0, later))

call-of : (text : List ℕ) (start : ℕ) → AreWordsAt text start check_words → Tail text (start + 4 + 4 + 4 + 4)
    → Call text start
call-of text start check (inl b) =
    let call = call-by_b text start b.0 (start + 4 + 4 + 4 + 4) check refl (sym b.1) b.2 in (call.0, call.1, call.2)
call-of text start check (inr both) =
    let at = start + 4 + 4 + 4 + 4 in
    let mov = both.0 in
    let braa = both.1 in
    let call = call-by_braa text start mov.0 braa.0 at check refl (sym mov.1) (sym braa.1) mov.2 braa.2 in
    (call.0, call.1, call.2)

call-decidable : (text : List ℕ) (start : ℕ) → Decidable (Call text start)
call-decidable text start =
    let at = start + 4 + 4 + 4 + 4 in
    decidable-map (λ parts. call-of text start parts.0 parts.1)
    (λ call. (check-of text start call, tail-of text start call))
    (decidable-and (words-decidable text start check_words)
    (decidable-or (passes-decidable (word_at text at) is_b)
    (decidable-and (passes-decidable (word_at text at) is_mov) (passes-decidable (word_at text (at + 4)) is_braa))))

-- ---- where everything has been restored

inside_after-decidable : (text : List ℕ) (pc before : ℕ) → Decidable (IsInsideCallAfter text pc before)
inside_after-decidable text pc before =
    by_parts (le-decidable (4 * before) pc) (call-decidable text (pc - 4 * before)) where
      by_parts : Decidable (4 * before ≤ pc) → Decidable (Call text (pc - 4 * before))
          → Decidable (IsInsideCallAfter text pc before)
      by_parts (inl room) (inl call) =
          let iff = inside-iff text pc before (length call.0) room (call.0, call.1, call.2, refl) in
          decidable-map iff.0 iff.1 (true-decidable (nat_lt before (length call.0)))
      by_parts (inl room) (inr none) = inr (not-inside text pc before (λ words stands call. none (words, stands, call)))
      by_parts (inr early) call = inr (λ i. (let e = i.place in early (omega arith)))

-- one of the places below a bound, or none of them
inside-below : (text : List ℕ) (pc bound : ℕ)
    → IsInsideCall text pc ⊎ ((before : ℕ) → before < bound → IsInsideCallAfter text pc before → ⊥)
inside-below text pc zero = inr (λ before below i. omega arith)
inside-below text pc (suc bound) = elim (inside_after-decidable text pc bound) [
  | inl here ↦ inl (bound, here)
  | inr not_here ↦ elim (inside-below text pc bound) [
    | inl inside ↦ inl inside
    | inr none ↦ (let P : ℕ → Type 0 = λ k. IsInsideCallAfter text pc k → ⊥ in
        inr (λ before below. below_more P bound none not_here before (omega arith)))
  ]
]

inside-decidable : (text : List ℕ) (pc : ℕ) → Decidable (IsInsideCall text pc)
inside-decidable text pc = elim (inside-below text pc 6) [
  | inl inside ↦ inl inside
  | inr none ↦ inr (λ i. none i.0 (inside-short text pc i.0 i.1) i.1)
]

tail_call-decidable : (text : List ℕ) (pc : ℕ) → Decidable (IsAtTailCall text pc)
tail_call-decidable text pc =
    decidable-map
    (λ b. record {
      branch = b.1.0.0;
      branch_is = b.1.0.1;
      branches = b.1.0.2;
      before = b.1.1.0;
      preceded = b.0;
      before_is = b.1.1.1;
      moves = b.1.1.2;
    })
    (λ t. (t.preceded, ((t.branch, t.branch_is, t.branches), (t.before, t.before_is, t.moves))))
    (decidable-and (le-decidable 4 pc)
    (decidable-and (passes-decidable (word_at text pc) (λ word. is_b word || is_br word))
    (passes-decidable (word_at text (pc - 4)) moves_sp)))

restored-decidable : (text : List ℕ) (pc : ℕ) → Decidable (IsRestored text pc)
restored-decidable text pc =
    decidable-map (λ either. to either) (λ is. from is)
    (decidable-or (inside-decidable text pc) (tail_call-decidable text pc)) where
      to : IsInsideCall text pc ⊎ IsAtTailCall text pc → IsRestored text pc
      to (inl inside) = inside_call inside
      to (inr at) = at_tail_call at

      from : IsRestored text pc → IsInsideCall text pc ⊎ IsAtTailCall text pc
      from (inside_call inside) = inl inside
      from (at_tail_call at) = inr at

-- ---- ends

ends-decidable : (text : List ℕ) (at : ℕ) (by : ℤ) → Decidable (Ends text at by)
ends-decidable text at by =
    by_parts (passes-decidable (word_at text at) is_return) (passes-decidable (word_at text at) is_b)
    (none-decidable by) (call-decidable text at) where
      none : (Passes (word_at text at) is_return → ⊥) → (Passes (word_at text at) is_b → by ≢ pos 0 → ⊥)
          → (Call text at → ⊥) → Ends text at by → ⊥
      none no_return no_branch no_call (words, stands, returns w is e) =
          no_return (w, (moved text at words (w ∷ []) e stands).0, is)
      none no_return no_branch no_call (words, stands, branches w is apart e) =
          no_branch (w, (moved text at words (w ∷ []) e stands).0, is) apart
      none no_return no_branch no_call (words, stands, calls call) = no_call (words, stands, call)

      by_parts : Decidable (Passes (word_at text at) is_return) → Decidable (Passes (word_at text at) is_b)
          → Decidable (by ≡ pos 0) → Decidable (Call text at) → Decidable (Ends text at by)
      by_parts (inl return) b unmoved call = inl (return.0 ∷ [], (return.1, tt), returns return.0 return.2 refl)
      by_parts (inr no_return) (inl b) (inr apart) call = inl (b.0 ∷ [], (b.1, tt), branches b.0 b.2 apart refl)
      by_parts (inr no_return) b unmoved (inl call) = inl (call.0, call.1, calls call.2)
      by_parts (inr no_return) (inl b) (inl unmoved) (inr no_call) =
          inr (none no_return (λ is apart. apart unmoved) no_call)
      by_parts (inr no_return) (inr no_b) unmoved (inr no_call) = inr (none no_return (λ is apart. no_b is) no_call)

-- ---- the rule of the places

-- what the rule of some places is: by where sp is, and where fp and lr have been found
abbrev MadeOf : ℤ → Option ℤ → Option ℤ → UnwindRuleAarch64 → Type 0
MadeOf sp fp lr rule = IsRuleOfPlaces (record { sp = sp; fp = fp; lr = lr }) rule

place-decided : (place : Option ℤ) → Decided (IsPlaceInWords place)
place-decided None = (None, λ y is. is)
place-decided (Some place) = units_of_8-decided place

no-units : (sp : ℤ) (fp lr : Option ℤ) → ((x : ℕ) → IsUnitsOf16 sp x → ⊥) → (rule : UnwindRuleAarch64)
    → MadeOf sp fp lr rule → ⊥
no-units sp fp lr none NoOp made = (let e = made.0 in none 0 (omega (arith, ints), omega arith))
no-units sp fp lr none (OffsetSp x) made = none x made.0
no-units sp fp lr none (OffsetSpAndRestoreLr x z) made = none x made.0
no-units sp fp lr none (OffsetSpAndRestoreFpAndLr x y z) made = none x made.0
no-units sp fp lr none rule made = absurd made

-- where neither is restored
zero-only : (sp : ℤ) → ((x : ℕ) → IsUnitsOf16 sp x → x ≡ 0) → (rule : UnwindRuleAarch64) → MadeOf sp None None rule
    → rule ≡ NoOp
zero-only sp only NoOp made = refl
zero-only sp only (OffsetSp x) made = (let e = only x made.0 in let above = made.1 in absurd (omega arith))
zero-only sp only (OffsetSpAndRestoreLr x z) made = absurd made.2
zero-only sp only (OffsetSpAndRestoreFpAndLr x y z) made = absurd made.1
zero-only sp only rule made = absurd made

offset-only : (sp : ℤ) (n : ℕ) → IsUnitsOf16 sp (suc n) → ((x : ℕ) → IsUnitsOf16 sp x → x ≡ suc n)
    → (rule : UnwindRuleAarch64) → MadeOf sp None None rule → rule ≡ OffsetSp (suc n)
offset-only sp n is only NoOp made = (let e = made.0 in let is_n = is.0 in absurd (omega (arith, ints)))
offset-only sp n is only (OffsetSp x) made = ap OffsetSp (only x made.0)
offset-only sp n is only (OffsetSpAndRestoreLr x z) made = absurd made.2
offset-only sp n is only (OffsetSpAndRestoreFpAndLr x y z) made = absurd made.1
offset-only sp n is only rule made = absurd made

-- where lr is restored and fp is not
lr-made : (sp place : ℤ) (rule : UnwindRuleAarch64) → MadeOf sp None (Some place) rule
    → (x : ℕ) × (z : ℤ) × (rule ≡ OffsetSpAndRestoreLr x z) × IsUnitsOf16 sp x × IsPlaceInWords (Some place) z
lr-made sp place NoOp made = (let e = made.2 in cc)
lr-made sp place (OffsetSp x) made = (let e = made.3 in cc)
lr-made sp place (OffsetSpAndRestoreLr x z) made = (x, z, refl, made.0, made.2)
lr-made sp place (OffsetSpAndRestoreFpAndLr x y z) made = absurd made.1
lr-made sp place rule made = absurd made

-- where fp is restored
fp-made : (sp place : ℤ) (lr : Option ℤ) (rule : UnwindRuleAarch64) → MadeOf sp (Some place) lr rule
    → (x : ℕ) × (y z : ℤ) × (rule ≡ OffsetSpAndRestoreFpAndLr x y z) × IsUnitsOf16 sp x
    × IsPlaceInWords (Some place) y × IsPlaceInWords lr z
fp-made sp place lr NoOp made = (let e = made.1 in cc)
fp-made sp place lr (OffsetSp x) made = (let e = made.2 in cc)
fp-made sp place lr (OffsetSpAndRestoreLr x z) made = (let e = made.1 in cc)
fp-made sp place lr (OffsetSpAndRestoreFpAndLr x y z) made = (x, y, z, refl, made.0, made.1, made.2)
fp-made sp place lr rule made = absurd made

made-decided : (sp : ℤ) (fp lr : Option ℤ) → Decided (IsUnitsOf16 sp) → Decided (IsPlaceInWords fp)
    → Decided (IsPlaceInWords lr) → Decided (MadeOf sp fp lr)
made-decided sp fp lr (None, none) y z = (None, no-units sp fp lr none)
made-decided sp None None (Some zero, is) y z =
    let e = is.0.0 in (Some NoOp, ((omega (arith, ints), refl, refl), zero-only sp is.1))
made-decided sp None None (Some (suc n), is) y z =
    (Some (OffsetSp (suc n)), ((is.0, omega arith, refl, refl), offset-only sp n is.0 is.1))
made-decided sp None (Some place) (Some x, is) y (Some z, there) = (
  Some (OffsetSpAndRestoreLr x z),
  (
    (is.0, refl, there.0),
    λ rule made.
        (let m = lr-made sp place rule made in m.2 ∙ ap₂ OffsetSpAndRestoreLr (is.1 m.0 m.3) (there.1 m.1 m.4)),
  ),
)
made-decided sp None (Some place) (Some x, is) y (None, none) =
    (None, λ rule made. (let m = lr-made sp place rule made in none m.1 m.4))
made-decided sp (Some place) lr (Some x, is) (None, none) z =
    (None, λ rule made. (let m = fp-made sp place lr rule made in none m.1 m.5))
made-decided sp (Some place) lr (Some x, is) (Some y, at) (None, none) =
    (None, λ rule made. (let m = fp-made sp place lr rule made in none m.2 m.6))
made-decided sp (Some place) lr (Some x, is) (Some y, at) (Some z, there) = (
  Some (OffsetSpAndRestoreFpAndLr x y z),
  (
    (is.0, at.0, there.0),
    λ rule made.
        (let m = fp-made sp place lr rule made in
        m.3 ∙ ap₂ (λ a b. OffsetSpAndRestoreFpAndLr a b m.2) (is.1 m.0 m.4) (at.1 m.1 m.5)
        ∙ ap (OffsetSpAndRestoreFpAndLr x y) (there.1 m.2 m.6)),
  ),
)

places-decided : (p : Places) → Decided (IsRuleOfPlaces p)
places-decided p =
    made-decided p.sp p.fp p.lr (units_of_16-decided p.sp) (place-decided p.fp) (place-decided p.lr)

-- ---- the rest of an epilogue

within-test : (at word found n : ℕ) (test : Bool) → nat_le (at + 4) n ≡ test → cond test (Some found) None ≡ Some word
    → at + 4 ≤ n
within-test at word found n true is e = grind (arith, nat_tests)
within-test at word found n false is e = cc

-- a word is inside the code
word-within : (text : List ℕ) (at word : ℕ) → word_at text at ≡ Some word → at + 4 ≤ length text
word-within text at word e = within-test at word _ (length text) (nat_le (at + 4) (length text)) refl e

-- where nothing restores any more
decided-at_end : (text : List ℕ) (at : ℕ) (p : Places)
    → ((word : ℕ) → word_at text at ≡ Some word → is_restoring word ≡ true → ⊥) → Decided (IsRestOfEpilogue text at p)
decided-at_end text at p none = elim (ends-decidable text at p.sp) [
  | inl ends ↦
      let rule = places-decided p in (
        rule.0,
        only-map (IsRuleOfPlaces p) (IsRestOfEpilogue text at p) rule.0 (end-rest text at p ends)
            (λ rule rest. (rest-end text at p none rule rest).1) rule.1,
      )
  | inr no_end ↦ (None, λ rule rest. no_end (rest-end text at p none rule rest).0)
]

rest-decided : (text : List ℕ) (fuel at : ℕ) (p : Places) → length text ≤ at + fuel
    → Decided (IsRestOfEpilogue text at p)
rest-decided text zero at p near =
    decided-at_end text at p (λ word there is. (let within = word-within text at word there in omega arith))
rest-decided text (suc fuel) at p near = elim (passes-decidable (word_at text at) is_restoring) [
  | inl word ↦
      let rest = rest-decided text fuel (at + 4) (places_after p word.0) (omega arith) in (
        rest.0,
        only-map (IsRestOfEpilogue text (at + 4) (places_after p word.0)) (IsRestOfEpilogue text at p) rest.0
            (rest-back text at word.0 p word.1 word.2) (rest-forward text at word.0 p word.1 word.2) rest.1,
      )
  | inr none ↦ decided-at_end text at p (λ word there is. none (word, there, is))
]

pub epilogue-decided : (text : List ℕ) (pc : ℕ) → Decided (IsEpilogueRule text pc)
epilogue-decided text pc =
    by_parts (restored-decidable text pc) (rest-decided text (length text) pc at_pc (omega arith)) where
      by_parts : Decidable (IsRestored text pc) → Decided (IsRestOfEpilogue text pc at_pc)
          → Decided (IsEpilogueRule text pc)
      by_parts (inl is) rest = (Some NoOp, (restored is refl, λ rule e. no_op rule e)) where
        no_op : (rule : UnwindRuleAarch64) → IsEpilogueRule text pc rule → rule ≡ NoOp
        no_op rule (restored here e) = e
        no_op rule (restores not_here rest) = absurd (not_here is)
      by_parts (inr not) rest = (
        rest.0,
        only-map (IsRestOfEpilogue text pc at_pc) (IsEpilogueRule text pc) rest.0
            (λ rule made. restores not made) (λ rule e. rest_of rule e) rest.1,
      ) where
        rest_of : (rule : UnwindRuleAarch64) → IsEpilogueRule text pc rule → IsRestOfEpilogue text pc at_pc rule
        rest_of rule (restored here e) = absurd (not here)
        rest_of rule (restores not_here made) = made
