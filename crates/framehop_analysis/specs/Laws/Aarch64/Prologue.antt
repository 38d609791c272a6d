-- The rule of a prologue on aarch64, constructed with the proof that it is the only one.
use Rattle.std.proofs.Common.{◌≡◌, ◌≢◌, inl, inr, ℕ, zero, suc, ◌+◌, ◌-◌, ◌*◌, ◌/◌, ℤ, pos, negsuc, true, List, [], ◌∷◌, length, Option, Some, None, refl, sym, ap, ◌∙◌, subst, arith}
use Rattle.std.proofs.lemmas.Int.{ints}
use Rattle.std.proofs.lemmas.Option.{same_Some}
use Rattle.framehop_core.specs.declared.aarch64.unwind_rule.UnwindRuleAarch64.{UnwindRuleAarch64}
use Rattle.framehop_core.specs.declared.aarch64.unwind_rule.UnwindRuleAarch64.TheVariants.{NoOp, OffsetSp}
use Rattle.framehop_analysis.specs.Answer.{IsOnly, Decided}
use Rattle.framehop_analysis.specs.Aarch64.Words.{word_at}
use Rattle.framehop_analysis.specs.Aarch64.Units.{IsUnitsOf16}
use Rattle.framehop_analysis.specs.Aarch64.Prologue.{is_run_word, lowered, IsRun, IsLongestRun, is_prologue_word, is_plain_store, IsRuleOfDepth, IsPrologueRule}
use Rattle.framehop_analysis.specs.Laws.Answer.{only-map, Decidable, decidable-map, decidable-and, true-decidable, eq-decidable, passes-decidable}
use Rattle.framehop_analysis.specs.Laws.Aarch64.Units.{units_of_16-decided}
use Rattle.framehop_analysis.specs.Laws.Aarch64.Runs.{longest-run, longest-same}

-- ---- the rule of a run

-- a store that leaves sp, after a run that has not moved it
pub too_early : (before after run : List ℕ) (next : ℕ) → IsLongestRun before run → lowered run ≡ pos 0
    → word_at after 0 ≡ Some next → is_plain_store next ≡ true → (rule : UnwindRuleAarch64)
    → IsPrologueRule before after rule → ⊥
too_early before after run next longest unmoved next_is plain rule p =
    let same : p.next ≡ next = same_Some p.next next (sym p.next_is ∙ next_is) in
    p.expected.moved (ap is_plain_store same ∙ plain)
    (ap lowered (longest-same before p.run run p.longest longest) ∙ unmoved)

-- the rule is that of the run's depth
pub rule-only : (before after run : List ℕ) (next : ℕ) (depth : ℤ) (found : Option UnwindRuleAarch64)
    → IsLongestRun before run → depth ≡ lowered run → word_at after 0 ≡ Some next → is_prologue_word next ≡ true
    → (is_plain_store next ≡ true → depth ≢ pos 0) → IsOnly (IsRuleOfDepth depth) found
    → IsOnly (IsPrologueRule before after) found
rule-only before after run next depth found longest depth_is next_is expected moved only =
    only-map (IsRuleOfDepth depth) (IsPrologueRule before after) found
    (λ rule made. record {
      run = run;
      longest = longest;
      next = next;
      next_is = next_is;
      expected = record { expected = expected; moved = λ plain none. moved plain (depth_is ∙ none) };
      made = (let P : ℤ → Type 0 = λ d. IsRuleOfDepth d rule in subst P depth_is made);
    })
    (λ rule p. (let P : ℤ → Type 0 = λ d. IsRuleOfDepth d rule in
    subst P (ap lowered (longest-same before p.run run p.longest longest) ∙ sym depth_is) p.made))
    only

-- ---- the run that ends at the pc

-- the longest run, from a run that ends at the pc
run-from : (bytes : List ℕ) (start : ℕ) (run : List ℕ) → IsRun bytes (4 * start) run
    → start + length run ≡ length bytes / 4
    → (run : List ℕ) × IsLongestRun bytes run
run-from bytes zero run stands ends = (run, longest-run bytes 0 run stands ends (λ word above there is. omega arith))
run-from bytes (suc start) run stands ends = elim (passes-decidable (word_at bytes (4 * start)) is_run_word) [
  | inl word ↦
      let at : 4 * start + 4 ≡ 4 * suc start = omega arith in
      run-from bytes start (word.0 ∷ run) (word.1, word.2, rw at stands) (omega arith)
  | inr none ↦
      let at : 4 * start ≡ 4 * (suc start - 1) = omega arith in (
        run,
        longest-run bytes (suc start) run stands ends
            (λ word above there is. none (word, ap (word_at bytes) at ∙ there, is)),
      )
]

run-at_pc : (bytes : List ℕ) → (run : List ℕ) × IsLongestRun bytes run
run-at_pc bytes = run-from bytes (length bytes / 4) [] tt (omega arith)

-- ---- the rule of a depth

zero-only : (depth : ℤ) → IsUnitsOf16 depth 0 → ((x : ℕ) → IsUnitsOf16 depth x → x ≡ 0) → (rule : UnwindRuleAarch64)
    → IsRuleOfDepth depth rule → rule ≡ NoOp
zero-only depth is only NoOp made = refl
zero-only depth is only (OffsetSp x) made = (let e = only x made.0 in let above = made.1 in absurd (omega arith))
zero-only depth is only rule made = absurd made

offset-only : (depth : ℤ) (n : ℕ) → IsUnitsOf16 depth (suc n) → ((x : ℕ) → IsUnitsOf16 depth x → x ≡ suc n)
    → (rule : UnwindRuleAarch64) → IsRuleOfDepth depth rule → rule ≡ OffsetSp (suc n)
offset-only depth n is only NoOp made =
    (let e : depth ≡ pos 0 = made in let is_n = is.0 in absurd (omega (arith, ints)))
offset-only depth n is only (OffsetSp x) made = ap OffsetSp (only x made.0)
offset-only depth n is only rule made = absurd made

no-units : (depth : ℤ) → ((x : ℕ) → IsUnitsOf16 depth x → ⊥) → (rule : UnwindRuleAarch64) → IsRuleOfDepth depth rule → ⊥
no-units depth none NoOp made = (let e : depth ≡ pos 0 = made in none 0 (omega (arith, ints), omega arith))
no-units depth none (OffsetSp x) made = none x made.0
no-units depth none rule made = absurd made

rule-decided : (depth : ℤ) → Decided (IsUnitsOf16 depth) → Decided (IsRuleOfDepth depth)
rule-decided depth (None, none) = (None, no-units depth none)
rule-decided depth (Some zero, is) = (let e = is.0.0 in (Some NoOp, (omega (arith, ints), zero-only depth is.0 is.1)))
rule-decided depth (Some (suc n), is) = (Some (OffsetSp (suc n)), ((is.0, omega arith), offset-only depth n is.0 is.1))

-- ---- the rule of a prologue

pub none-decidable : (z : ℤ) → Decidable (z ≡ pos 0)
none-decidable (pos n) = decidable-map (λ e. ap pos e) (λ e. omega (arith, ints)) (eq-decidable n 0)
none-decidable (negsuc n) = inr (λ e. omega (arith, ints))

pub prologue-decided : (before after : List ℕ) → Decided (IsPrologueRule before after)
prologue-decided before after = elim (passes-decidable (word_at after 0) is_prologue_word) [
  | inr none ↦ (None, λ rule p. none (p.next, p.next_is, p.expected.expected))
  | inl next ↦
      let run = run-at_pc before in
      let rule = rule-decided (lowered run.0) (units_of_16-decided (lowered run.0)) in
      elim (decidable-and (true-decidable (is_plain_store next.0)) (none-decidable (lowered run.0))) [
        | inl both ↦ (None, too_early before after run.0 next.0 run.1 both.1 next.1 both.0)
        | inr moved ↦ (
          rule.0,
          rule-only before after run.0 next.0 (lowered run.0) rule.0 run.1 refl next.1 next.2
              (λ plain none. moved (plain, none)) rule.1,
        )
      ]
]
