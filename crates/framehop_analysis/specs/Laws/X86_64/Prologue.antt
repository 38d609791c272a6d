-- The rule of a prologue on x86_64, constructed with the proof that it is the only one.
use Rattle.std.proofs.Common.{◌≡◌, ◌⊎◌, inl, inr, ℕ, zero, suc, ◌+◌, ◌-◌, ◌^◌, ◌<◌, ◌≤◌, true, List, length, slice_get, slice_index, Some, None, refl, sym, ap, ◌∙◌, arith}
use Rattle.framehop_core.specs.declared.x86_64.unwind_rule.UnwindRuleX86_64.{UnwindRuleX86_64}
use Rattle.framehop_core.specs.declared.x86_64.unwind_rule.UnwindRuleX86_64.TheVariants.{OffsetSp, UseFramePointer}
use Rattle.framehop_analysis.specs.Answer.{Decided}
use Rattle.framehop_analysis.specs.X86_64.Bytes.{is_prefix, is_push}
use Rattle.framehop_analysis.specs.X86_64.Prologue.{IsPrefixBefore, IsPushBefore, IsFrameSetUpBefore, AreLongestPushes, begins_prologue, IsNext, IsRuleOfPushes, IsPrologueRule}
use Rattle.framehop_analysis.specs.Laws.Answer.{Decidable, Passes, decidable-map, decidable-and, true-decidable, lt-decidable, le-decidable, is-decidable, passes-decidable}
use Rattle.framehop_analysis.specs.Laws.X86_64.Pushes.{IsWalked, walk-none, walk-back, walk-end, before-below, push-with-prefix, push-alone, only-pushes}

-- ---- the pushes before the pc

-- no push ends at an offset
abbrev NoPush : List ℕ → ℕ → Type 0
NoPush text end =
    (opcode : ℕ) → 0 < end → slice_get text (end - 1) ≡ Some opcode → is_push opcode ≡ true → ⊥

prefix-decidable : (text : List ℕ) (at : ℕ) → Decidable (IsPrefixBefore text at)
prefix-decidable text at =
    decidable-map (λ b. (b.1.0, b.0, b.1.1, b.1.2)) (λ p. (p.1, (p.0, p.2, p.3)))
    (decidable-and (lt-decidable 0 at) (passes-decidable (slice_get text (at - 1)) is_prefix))

push-or_stop : (text : List ℕ) (end : ℕ) → ((before : ℕ) × IsPushBefore text end before) ⊎ NoPush text end
push-or_stop text end =
    by_parts (lt-decidable 0 end) (passes-decidable (slice_get text (end - 1)) is_push)
    (prefix-decidable text (end - 1)) where
      by_parts : Decidable (0 < end) → Decidable (Passes (slice_get text (end - 1)) is_push)
          → Decidable (IsPrefixBefore text (end - 1)) → ((before : ℕ) × IsPushBefore text end before) ⊎ NoPush text end
      by_parts (inl above) (inl o) (inl p) =
          let at : end - 1 - 1 ≡ end - 2 = omega arith in
          let room = p.1 in
          let before = sym p.2 ∙ ap (slice_get text) at in
          inl (end - 2, push-with-prefix text end p.0 o.0 (omega arith) before p.3 (sym o.1) o.2)
      by_parts (inl above) (inl o) (inr none) = inl (end - 1, push-alone text end o.0 above (sym o.1) o.2 none)
      by_parts (inl above) (inr none) p = inr (λ opcode above there push. none (opcode, there, push))
      by_parts (inr at_start) o p = inr (λ opcode above there push. at_start above)

-- the pushes that end at the pc, from those that the walk has passed
pushes-from : (text : List ℕ) (pc fuel start count : ℕ) → start ≤ fuel → IsWalked text pc start count
    → (start : ℕ) × (count : ℕ) × AreLongestPushes text pc start count
pushes-from text pc zero start count enough walked =
    (start, count, walk-end text pc start count walked (λ opcode above there push. omega arith))
pushes-from text pc (suc fuel) start count enough walked = elim (push-or_stop text start) [
  | inl push ↦
      let below = before-below text start push.0 push.1 in
      pushes-from text pc fuel push.0 (count + 1) (omega arith) (walk-back text pc start count push.0 walked push.1)
  | inr none ↦ (start, count, walk-end text pc start count walked none)
]

longest-pushes : (text : List ℕ) (pc : ℕ) → (start : ℕ) × (count : ℕ) × AreLongestPushes text pc start count
longest-pushes text pc = pushes-from text pc pc pc 0 (omega arith) (walk-none text pc)

-- ---- their rule

pub frame-decidable : (text : List ℕ) (at : ℕ) → Decidable (IsFrameSetUpBefore text at)
frame-decidable text at =
    decidable-map (λ b. record { room = b.0; push = b.1.0; rex = b.1.1.0; mov = b.1.1.1.0; registers = b.1.1.1.1 })
    (λ f. (f.room, (f.push, (f.rex, (f.mov, f.registers)))))
    (decidable-and (le-decidable 4 at) (decidable-and (is-decidable (slice_get text (at - 4)) 0x55)
    (decidable-and (is-decidable (slice_get text (at - 3)) 0x48)
    (decidable-and (is-decidable (slice_get text (at - 2)) 0x89)
    (is-decidable (slice_get text (at - 1)) 0xE5)))))

framed-only : (text : List ℕ) (start count : ℕ) → IsFrameSetUpBefore text start → (rule : UnwindRuleX86_64)
    → IsRuleOfPushes text start count rule → rule ≡ UseFramePointer
framed-only text start count framed UseFramePointer made = refl
framed-only text start count framed (OffsetSp x) made = absurd (made.0 framed)
framed-only text start count framed rule made = absurd made

offset-only : (text : List ℕ) (start count : ℕ) → (IsFrameSetUpBefore text start → ⊥) → (rule : UnwindRuleX86_64)
    → IsRuleOfPushes text start count rule → (rule ≡ OffsetSp (count + 1)) × (count + 1 < 2 ^ 16)
offset-only text start count none UseFramePointer made = absurd (none made)
offset-only text start count none (OffsetSp x) made =
    let e = made.1 in let fits = made.2 in (ap OffsetSp e, omega arith)
offset-only text start count none rule made = absurd made

rule-decided : (text : List ℕ) (start count : ℕ) → Decidable (IsFrameSetUpBefore text start)
    → Decidable (count + 1 < 2 ^ 16) → Decided (IsRuleOfPushes text start count)
rule-decided text start count (inl framed) fits = (Some UseFramePointer, (framed, framed-only text start count framed))
rule-decided text start count (inr none) (inl fits) =
    (Some (OffsetSp (count + 1)), ((none, refl, fits), λ rule made. (offset-only text start count none rule made).0))
rule-decided text start count (inr none) (inr many) =
    (None, λ rule made. many (offset-only text start count none rule made).1)

-- ---- the rule of a prologue

next-decidable : (text : List ℕ) (pc : ℕ) → Decidable (IsNext text pc)
next-decidable text pc =
    decidable-map (λ b. record { room = b.0; begins = b.1 }) (λ n. (n.room, n.begins))
    (decidable-and (le-decidable (pc + 4) (length text))
    (true-decidable (begins_prologue (slice_index text pc) (slice_index text (pc + 1)) (slice_index text (pc + 2)))))

pub prologue-decided : (text : List ℕ) (pc : ℕ) → Decided (IsPrologueRule text pc)
prologue-decided text pc = elim (next-decidable text pc) [
  | inl next ↦
      let found = longest-pushes text pc in
      let fits = lt-decidable (found.1 + 1) (2 ^ 16) in
      let rule = rule-decided text found.0 found.1 (frame-decidable text found.0) fits in
      (rule.0, only-pushes text pc found.0 found.1 rule.0 next found.2 rule.1)
  | inr none ↦ (None, λ rule p. none p.next)
]
