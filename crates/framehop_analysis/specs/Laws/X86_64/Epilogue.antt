-- The rule of an epilogue on x86_64, constructed with the proof that it is the only one.
use Rattle.std.proofs.Common.{◌≡◌, ◌⊎◌, inl, inr, ℕ, zero, suc, ◌+◌, ◌-◌, ◌^◌, ◌<◌, ◌≤◌, pos, Bool, false, ◌==◌, List, length, slice_get, Option, Some, None, refl, sym, ap, ◌∙◌, arith}
use Rattle.std.proofs.lemmas.Option.{slice_get_within, same_Some}
use Rattle.framehop_core.specs.declared.x86_64.unwind_rule.UnwindRuleX86_64.{UnwindRuleX86_64}
use Rattle.framehop_core.specs.declared.x86_64.unwind_rule.UnwindRuleX86_64.TheVariants.{JustReturn, OffsetSp, OffsetSpAndRestoreBp}
use Rattle.framehop_analysis.specs.Answer.{Decided}
use Rattle.framehop_analysis.specs.X86_64.Bytes.{is_pop_opcode}
use Rattle.framehop_analysis.specs.X86_64.Epilogue.{is_plain_pop, IsPopBytes, alone, after_40, after_41, Popped, none_popped, after_pop, is_jump, FollowsPop, IsEnd, returns, jumps, IsRuleOfPopped, IsEpilogueRule}
use Rattle.framehop_analysis.specs.Laws.Answer.{Decidable, Passes, decidable-map, decidable-and, lt-decidable, le-decidable, is-decidable, passes-decidable}
use Rattle.framehop_analysis.specs.Laws.X86_64.Pops.{pop-low, NoPop, IsReadUpTo, read-none, read-more, no-end, only-end}

-- ---- the end

follows-decidable : (text : List ℕ) (pc count : ℕ) → Decidable (FollowsPop text pc count)
follows-decidable text pc zero =
    decidable-map (λ b. (b.1.0, b.0, b.1.1, b.1.2)) (λ f. (f.1, (f.0, f.2, f.3)))
    (decidable-and (le-decidable 1 pc) (passes-decidable (slice_get text (pc - 1)) is_pop_opcode))
follows-decidable text pc (suc count) = inl tt

end-decidable : (text : List ℕ) (pc at count : ℕ) → Decidable (IsEnd text pc at count)
end-decidable text pc at count =
    by_parts (is-decidable (slice_get text at) 0xC3) (passes-decidable (slice_get text at) is_jump)
    (follows-decidable text pc count) where
      by_parts : Decidable (slice_get text at ≡ Some 0xC3) → Decidable (Passes (slice_get text at) is_jump)
          → Decidable (FollowsPop text pc count) → Decidable (IsEnd text pc at count)
      by_parts (inl return) jump follows = inl (returns return)
      by_parts (inr no_return) (inl jump) (inl follows) = inl (jumps jump.0 jump.1 jump.2 follows)
      by_parts (inr no_return) (inl jump) (inr apart) = inr (λ e. none e) where
        none : IsEnd text pc at count → ⊥
        none (returns there) = no_return there
        none (jumps opcode there is follows) = apart follows
      by_parts (inr no_return) (inr no_jump) follows = inr (λ e. none e) where
        none : IsEnd text pc at count → ⊥
        none (returns there) = no_return there
        none (jumps opcode there is follows) = no_jump (opcode, there, is)

-- ---- the rule of the pops

-- what the rule of some pops is: by their number, and that before the last one of rbp
abbrev MadeOf : ℕ → Option ℕ → UnwindRuleX86_64 → Type 0
MadeOf count before rule = IsRuleOfPopped (record { count = count; before_bp = before }) rule

none-only : (before : Option ℕ) (rule : UnwindRuleX86_64) → MadeOf 0 before rule → rule ≡ JustReturn
none-only before JustReturn made = refl
none-only before (OffsetSp x) made = (let above = made.0 in absurd (omega arith))
none-only before (OffsetSpAndRestoreBp x y) made = (let above = made.0 in absurd (omega arith))
none-only before rule made = absurd made

offset-only : (n : ℕ) (rule : UnwindRuleX86_64) → MadeOf (suc n) None rule
    → (rule ≡ OffsetSp (suc n + 1)) × (suc n + 1 < 2 ^ 16)
offset-only n JustReturn made = (let e : suc n ≡ 0 = made in absurd (omega arith))
offset-only n (OffsetSp x) made = (let e = made.1 in let fits = made.2 in (ap OffsetSp e, omega arith))
offset-only n (OffsetSpAndRestoreBp x y) made = (let e = made.4 in cc)
offset-only n rule made = absurd made

-- the rule, and that its fields hold the numbers
abbrev Restores : ℕ → ℕ → UnwindRuleX86_64 → Type 0
Restores n before rule =
    (rule ≡ OffsetSpAndRestoreBp (suc n + 1) (pos before)) × (suc n + 1 < 2 ^ 16) × (before < 2 ^ 15)

restore-only : (n before : ℕ) (rule : UnwindRuleX86_64) → MadeOf (suc n) (Some before) rule → Restores n before rule
restore-only n before JustReturn made = (let e : suc n ≡ 0 = made in absurd (omega arith))
restore-only n before (OffsetSp x) made = (let e = made.3 in cc)
restore-only n before (OffsetSpAndRestoreBp x y) made =
    let e = made.1 in let fits = made.2 in let few = made.6 in
    let same : before ≡ made.3 = same_Some before made.3 made.4 in (
      ap (λ k. OffsetSpAndRestoreBp k y) e ∙ ap (OffsetSpAndRestoreBp (suc n + 1)) (made.5 ∙ ap pos (sym same)),
      omega arith,
      omega arith,
    )
restore-only n before rule made = absurd made

rule-decided : (count : ℕ) (before : Option ℕ) → Decided (MadeOf count before)
rule-decided zero before = (Some JustReturn, (refl, none-only before))
rule-decided (suc n) None = elim (lt-decidable (suc n + 1) (2 ^ 16)) [
  | inl fits ↦ (
    Some (OffsetSp (suc n + 1)),
    ((omega arith, refl, fits, refl), λ rule made. (offset-only n rule made).0),
  )
  | inr many ↦ (None, λ rule made. many (offset-only n rule made).1)
]
rule-decided (suc n) (Some before) =
    elim (decidable-and (lt-decidable (suc n + 1) (2 ^ 16)) (lt-decidable before (2 ^ 15))) [
      | inl fits ↦ (
        Some (OffsetSpAndRestoreBp (suc n + 1) (pos before)),
        ((omega arith, refl, fits.0, before, refl, refl, fits.1), λ rule made. (restore-only n before rule made).0),
      )
      | inr many ↦ (None, λ rule made. (let is = restore-only n before rule made in many (is.1, is.2)))
    ]

-- ---- the pops

-- a pop is at an offset, or none is
abbrev PopOrNone : List ℕ → ℕ → Type 0
PopOrNone text at = ((size : ℕ) × (is_bp : Bool) × IsPopBytes text at size is_bp) ⊎ NoPop text at

pop-or_none : (text : List ℕ) (at : ℕ) → PopOrNone text at
pop-or_none text at =
    by_bytes (passes-decidable (slice_get text at) is_plain_pop)
    (decidable-and (is-decidable (slice_get text at) 0x40) (passes-decidable (slice_get text (at + 1)) is_plain_pop))
    (decidable-and (is-decidable (slice_get text at) 0x41) (passes-decidable (slice_get text (at + 1)) is_pop_opcode))
  where
    by_bytes : Decidable (Passes (slice_get text at) is_plain_pop)
        → Decidable ((slice_get text at ≡ Some 0x40) × Passes (slice_get text (at + 1)) is_plain_pop)
        → Decidable ((slice_get text at ≡ Some 0x41) × Passes (slice_get text (at + 1)) is_pop_opcode)
        → PopOrNone text at
    by_bytes (inl p) second third = inl (1, p.0 == 0x5D, alone p.0 p.1 p.2 refl refl)
    by_bytes (inr no_first) (inl p) third =
        inl (2, p.1.0 == 0x5D, after_40 p.1.0 p.0 p.1.1 p.1.2 refl refl)
    by_bytes (inr no_first) (inr no_second) (inl p) = inl (2, false, after_41 p.1.0 p.0 p.1.1 p.1.2 refl refl)
    by_bytes (inr no_first) (inr no_second) (inr no_third) = inr (λ size is_bp pop. none size is_bp pop) where
      none : (size : ℕ) (is_bp : Bool) → IsPopBytes text at size is_bp → ⊥
      none size is_bp (alone opcode there is size_is bp_is) = no_first (opcode, there, is)
      none size is_bp (after_40 opcode first there is size_is bp_is) = no_second (first, (opcode, there, is))
      none size is_bp (after_41 opcode first there is size_is bp_is) = no_third (first, (opcode, there, is))

-- after the last pop
decided-at_end : (text : List ℕ) (pc at : ℕ) (p : Popped) → IsReadUpTo text pc at p → NoPop text at
    → Decidable (IsEnd text pc at p.count) → Decided (IsEpilogueRule text pc)
decided-at_end text pc at p read none (inl ends) =
    let rule = rule-decided p.count p.before_bp in (rule.0, only-end text pc at p rule.0 read none ends rule.1)
decided-at_end text pc at p read none (inr not_end) = (None, no-end text pc at p read none not_end)

decided-from : (text : List ℕ) (pc fuel at : ℕ) (p : Popped) → length text ≤ at + fuel → IsReadUpTo text pc at p
    → PopOrNone text at → Decided (IsEpilogueRule text pc)
decided-from text pc fuel at p near read (inr none) =
    decided-at_end text pc at p read none (end-decidable text pc at p.count)
decided-from text pc zero at p near read (inl (size, is_bp, pop)) =
    let low = pop-low text at size is_bp pop in
    let within = slice_get_within text at low.0 low.1 in absurd (omega arith)
decided-from text pc (suc fuel) at p near read (inl (size, is_bp, pop)) =
    let above = (pop-low text at size is_bp pop).3 in
    decided-from text pc fuel (at + size) (after_pop p is_bp) (omega arith)
    (read-more text pc at size is_bp p (after_pop p is_bp) read pop refl) (pop-or_none text (at + size))

pub epilogue-decided : (text : List ℕ) (pc : ℕ) → Decided (IsEpilogueRule text pc)
epilogue-decided text pc =
    decided-from text pc (length text) pc none_popped (omega arith) (read-none text pc) (pop-or_none text pc)
