-- Pushes on x86_64, walked backwards from the pc.
use Rattle.std.proofs.Common.{◌≡◌, ◌⊎◌, inl, inr, ℕ, zero, suc, ◌+◌, ◌-◌, ◌/◌, ◌<◌, ◌≤◌, true, false, List, slice_get, Option, Some, None, refl, sym, ap, ◌∙◌, subst, arith}
use Rattle.std.proofs.lemmas.Bool.{eqb-true}
use Rattle.std.proofs.lemmas.Option.{same_Some}
use Rattle.framehop_core.specs.declared.x86_64.unwind_rule.UnwindRuleX86_64.{UnwindRuleX86_64}
use Rattle.framehop_analysis.specs.Answer.{IsOnly}
use Rattle.framehop_analysis.specs.X86_64.Bytes.{is_prefix, is_push}
use Rattle.framehop_analysis.specs.X86_64.Prologue.{IsPushBytes, plain, prefixed, IsPrefixBefore, IsPushBefore, ArePushes, AreLongestPushes, IsNext, IsRuleOfPushes, IsPrologueRule}
use Rattle.framehop_analysis.specs.Laws.Answer.{only-map}

-- no byte is both
push-prefix-apart : (byte : ℕ) → is_push byte ≡ true → is_prefix byte ≡ true → ⊥
push-prefix-apart byte push prefix =
    let a : byte / 8 ≡ 10 = eqb-true _ _ push in
    let b : byte / 2 ≡ 32 = eqb-true _ _ prefix in
    omega arith

-- a push ends with its opcode
push-opcode : (text : List ℕ) (at next : ℕ) → IsPushBytes text at next
    → (opcode : ℕ) × (at < next) × (slice_get text (next - 1) ≡ Some opcode) × (is_push opcode ≡ true)
push-opcode text at next (plain opcode there is e) =
    let same : next - 1 ≡ at = omega arith in (opcode, omega arith, ap (slice_get text) same ∙ there, is)
push-opcode text at next (prefixed prefix opcode before is_pre there is e) =
    let same : next - 1 ≡ at + 1 = omega arith in (opcode, omega arith, ap (slice_get text) same ∙ there, is)

-- one more push in front
pushes-before : (text : List ℕ) (count a b end : ℕ) → IsPushBytes text a b → ArePushes text count b end
    → ArePushes text (suc count) a end
pushes-before text zero a b end push e = (a, refl, (let P : ℕ → Type 0 = IsPushBytes text a in subst P e push))
pushes-before text (suc count) a b end push rest = (rest.0, pushes-before text count a b rest.0 push rest.1, rest.2)

-- the first of some pushes, and the others
pub first-push : (text : List ℕ) (count start end : ℕ) → ArePushes text (suc count) start end
    → (next : ℕ) × IsPushBytes text start next × ArePushes text count next end
first-push text zero start end (last, same, push) =
    (end, (let P : ℕ → Type 0 = λ at. IsPushBytes text at end in subst P (sym same) push), refl)
first-push text (suc count) start end (last, rest, push) =
    let first = first-push text count start last rest in (first.0, first.1, (last, first.2, push))

-- pushes have bytes
pub pushes-below : (text : List ℕ) (count start end : ℕ) → ArePushes text count start end → start + count ≤ end
pushes-below text zero start end same = omega arith
pushes-below text (suc count) start end (last, rest, push) =
    let below = (push-opcode text last end push).1 in
    let others = pushes-below text count start last rest in omega arith

-- ---- the walk

-- a list of pushes that ends at the pc is within the walk's, or goes on before it
Passes : List ℕ → ℕ → ℕ → ℕ → ℕ → Type 0
Passes text start count s n = ((start ≤ s) × (n ≤ count)) ⊎ ((m : ℕ) × ArePushes text m s start × (n ≡ m + count))

pub record IsWalked (text : List ℕ) (pc start count : ℕ) : Type 0 where
  pub pushes : ArePushes text count start pc
  through : (s n : ℕ) → ArePushes text n s pc → Passes text start count s n
  pub small : start + count ≤ pc

pub walk-none : (text : List ℕ) (pc : ℕ) → IsWalked text pc pc 0
unfolding Passes
walk-none text pc = record { pushes = refl; through = λ s n p. inr (n, p, omega arith); small = omega arith }

last-of : (text : List ℕ) (start before last : ℕ) → IsPushBefore text start before → IsPushBytes text last start
    → (last ≡ before) ⊎ ((last ≡ before + 1)
    × ((prefix : ℕ) × (slice_get text before ≡ Some prefix) × (is_prefix prefix ≡ true)))
last-of text start before last b (plain opcode there is e) = by_push b.push where
  by_push : IsPushBytes text before start
      → (last ≡ before) ⊎ ((last ≡ before + 1)
      × ((prefix : ℕ) × (slice_get text before ≡ Some prefix) × (is_prefix prefix ≡ true)))
  by_push (plain opcode' there' is' e') = inl (omega arith)
  by_push (prefixed prefix' opcode' first' is_pre' there' is' e') = inr (omega arith, (prefix', first', is_pre'))
last-of text start before last b (prefixed prefix opcode first is_pre there is e) = by_push b.push where
  by_push : IsPushBytes text before start
      → (last ≡ before) ⊎ ((last ≡ before + 1)
      × ((prefix : ℕ) × (slice_get text before ≡ Some prefix) × (is_prefix prefix ≡ true)))
  by_push (plain opcode' there' is' e') =
      let same : before - 1 ≡ last = omega arith in
      absurd (b.whole (omega arith) (prefix, omega arith, ap (slice_get text) same ∙ first, is_pre))
  by_push (prefixed prefix' opcode' first' is_pre' there' is' e') = inl (omega arith)

pub before-below : (text : List ℕ) (start before : ℕ) → IsPushBefore text start before → before < start
before-below text start before b = (push-opcode text before start b.push).1

pub walk-back : (text : List ℕ) (pc start count before : ℕ) → IsWalked text pc start count
    → IsPushBefore text start before → IsWalked text pc before (count + 1)
unfolding Passes
walk-back text pc start count before w b = record {
  pushes = (let more : suc count ≡ count + 1 = omega arith in let P : ℕ → Type 0 = λ n. ArePushes text n before pc in
      subst P more (pushes-before text count before start pc b.push w.pushes));
  through = λ s n p. on s n (w.through s n p);
  small = (let below = before-below text start before b in let small = w.small in omega arith);
} where
  below : before < start
  below = before-below text start before b

  on : (s n : ℕ) → Passes text start count s n → Passes text before (count + 1) s n
  on s n (inl within) = let a = within.0 in let c = within.1 in inl (omega (arith, below), omega arith)
  on s n (inr (zero, same, e)) = inl (omega (arith, below, same), omega arith)
  on s n (inr (suc zero, (last, same, push), e)) = elim (last-of text start before last b push) [
    | inl at ↦ inr (zero, same ∙ at, omega arith)
    | inr past ↦ let at = past.0 in inl (omega arith, omega arith)
  ]
  on s n (inr (suc (suc m), (last, (last', rest, push'), push), e)) = elim (last-of text start before last b push) [
    | inl at ↦ (let P : ℕ → Type 0 = ArePushes text (suc m) s in
        inr (suc m, subst P at (last', rest, push'), omega arith))
    | inr past ↦
        let found = push-opcode text last' last push' in
        let at : last - 1 ≡ before = (let e = past.0 in omega arith) in
        let same : found.0 ≡ past.1.0 = same_Some found.0 past.1.0 (sym found.2 ∙ ap (slice_get text) at ∙ past.1.1) in
        absurd (push-prefix-apart past.1.0 (ap is_push (sym same) ∙ found.3) past.1.2)
  ]

pub walk-end : (text : List ℕ) (pc start count : ℕ) → IsWalked text pc start count
    → ((opcode : ℕ) → 0 < start → slice_get text (start - 1) ≡ Some opcode → is_push opcode ≡ true → ⊥)
    → AreLongestPushes text pc start count
unfolding Passes
walk-end text pc start count w stopped = record { pushes = w.pushes; longest = λ s n p. on s n (w.through s n p) } where
  on : (s n : ℕ) → Passes text start count s n → (start ≤ s) × (n ≤ count)
  on s n (inl within) = within
  on s n (inr (zero, same, e)) = (omega arith, omega arith)
  on s n (inr (suc m, (last, rest, push), e)) =
      let found = push-opcode text last start push in
      let below = found.1 in
      absurd (stopped found.0 (omega arith) found.2 found.3)

-- ---- one push

pub push-with-prefix : (text : List ℕ) (start prefix opcode : ℕ) → 1 < start → Some prefix ≡ slice_get text (start - 2)
    → is_prefix prefix ≡ true → Some opcode ≡ slice_get text (start - 1) → is_push opcode ≡ true
    → IsPushBefore text start (start - 2)
push-with-prefix text start prefix opcode above there is later push =
    let at : start - 2 + 1 ≡ start - 1 = omega arith in
    record {
      push = prefixed prefix opcode (sym there) is (ap (slice_get text) at ∙ sym later) push (omega arith);
      whole = λ e. absurd (omega arith);
    }

pub push-alone : (text : List ℕ) (start opcode : ℕ) → 0 < start → Some opcode ≡ slice_get text (start - 1)
    → is_push opcode ≡ true → (IsPrefixBefore text (start - 1) → ⊥) → IsPushBefore text start (start - 1)
push-alone text start opcode above there push none = record {
  push = plain opcode (sym there) push (omega arith);
  whole = λ e. none;
}

pub not-prefixed : (text : List ℕ) (start byte : ℕ) → Some byte ≡ slice_get text (start - 2) → false ≡ is_prefix byte
    → IsPrefixBefore text (start - 1) → ⊥
not-prefixed text start byte there none p =
    let at : start - 1 - 1 ≡ start - 2 = omega arith in
    let same : byte ≡ p.0 = same_Some byte p.0 (there ∙ ap (slice_get text) (sym at) ∙ p.2) in
    (let e = ap is_prefix same in let is = p.3 in cc)

pub no-byte : (text : List ℕ) (start : ℕ) → None ≡ slice_get text (start - 2) → IsPrefixBefore text (start - 1) → ⊥
no-byte text start none p =
    let at : start - 1 - 1 ≡ start - 2 = omega arith in
    let there = none ∙ ap (slice_get text) (sym at) ∙ p.2 in cc

-- ---- the rule

pub only-pushes : (text : List ℕ) (pc start count : ℕ) (found : Option UnwindRuleX86_64) → IsNext text pc
    → AreLongestPushes text pc start count → IsOnly (IsRuleOfPushes text start count) found
    → IsOnly (IsPrologueRule text pc) found
only-pushes text pc start count found next longest only =
    only-map (IsRuleOfPushes text start count) (IsPrologueRule text pc) found
    (λ rule made. record { next = next; start = start; count = count; longest = longest; made = made })
    (λ rule p.
    let a = longest.longest p.start p.count p.longest.pushes in
    let b = p.longest.longest start count longest.pushes in
    let low = a.0 in let high = b.0 in let few = a.1 in let many = b.1 in
    let starts : p.start ≡ start = omega arith in
    let counts : p.count ≡ count = omega arith in
    let P : ℕ → Type 0 = λ n. IsRuleOfPushes text n p.count rule in
    let Q : ℕ → Type 0 = λ n. IsRuleOfPushes text start n rule in
    subst Q counts (subst P starts p.made))
    only
