-- The machine of aarch64 goes through what has been read: a prologue's run, and an epilogue to its end.
use Rattle.std.proofs.Common.{◌≡◌, inl, inr, ℕ, suc, ◌+◌, ◌*◌, pos, ◌-ℤ◌, Bool, true, false, ◌||◌, List, [], ◌∷◌, ◌++◌, refl, subst}
use Rattle.std.proofs.lemmas.Bool.{or_cases, or_left, false_from_ne_true}
use Rattle.framehop_core.specs.declared.aarch64.unwind_rule.UnwindRuleAarch64.{UnwindRuleAarch64}
use Rattle.framehop_analysis.specs.Aarch64.Words.{AreWordsAt, is_store, is_load, is_sub_sp, is_add_sp, is_signing, is_pacibsp, is_autibsp, is_other, is_branch, immediate}
use Rattle.framehop_analysis.specs.Aarch64.Machine.{State, with_sp_moved}
use Rattle.framehop_analysis.specs.Laws.Aarch64.Shapes.{Step, Run, RunOut, sp_after_access, after_load}
use Rattle.framehop_analysis.specs.Laws.Aarch64.Apart.{load-step, store-step, sub-step, add-step, quiet-step}
use Rattle.framehop_analysis.specs.Laws.Aarch64.Encodings.{shape-run, shape-run_out}
use Rattle.framehop_analysis.specs.Aarch64.Prologue.{is_run_word, IsRun, IsPrologueRule, ReachesFrom}
use Rattle.framehop_analysis.specs.Aarch64.Epilogue.{Places, at_pc, is_restoring, places_after, places_after_all, AllRestoring, IsEnd, IsEpilogueRule, restored, restores, EndsFrom}
use Rattle.framehop_analysis.specs.Laws.Aarch64.Calls.{branch-not-restoring}
use Rattle.framehop_analysis.specs.Laws.Aarch64.Does.{is_quiet, IsQuiet, IsQuietList, end-quiet, restored-quiet}

-- ---- runs

quiet-shape : (word : ℕ) → is_quiet word ≡ true → (is_signing word || is_other word) ≡ true
unfolding is_quiet
quiet-shape word e = e

-- the machine comes to an end from a state
Ending : ℕ → List ℕ → ℕ → State → Type 0
Ending mask text at s = (count : ℕ) × (out : State) × RunOut mask text count at s out

quiet-ending : (mask : ℕ) (text : List ℕ) (at word : ℕ) (words : List ℕ) (s : State) (branch : Bool)
    → is_branch word ≡ branch → AreWordsAt text at (word ∷ words) → IsQuiet word words → Ending mask text at s
unfolding Ending IsQuiet
quiet-ending mask text at word [] s branch branch_is stands quiet =
    (0, s, (word, stands.0, quiet.1, quiet-step mask word s (quiet-shape word quiet.0)))
quiet-ending mask text at word (next ∷ words) s true branch_is stands quiet =
    (0, s, (word, stands.0, branch_is, quiet-step mask word s (quiet-shape word quiet.0)))
quiet-ending mask text at word (next ∷ words) s false branch_is stands quiet =
    let rest = quiet-ending mask text (at + 4) next words s (is_branch next) refl stands.1 quiet.1 in
    (suc rest.0, rest.1, (word, stands.0, branch_is, s, quiet-step mask word s (quiet-shape word quiet.0), rest.2))

restoring-step : (mask word : ℕ) (s : State) → is_restoring word ≡ true → (t : State) × Step mask word s t
restoring-step mask word s e = elim (or_cases (is_load word) (is_add_sp word) e) [
  | inl load ↦ (after_load word s, load-step mask word s _ load refl)
  | inr add ↦ (with_sp_moved s (pos (immediate word)), add-step mask word s _ add refl)
]

restoring-ending : (mask : ℕ) (text : List ℕ) (at : ℕ) (restoring end : List ℕ) (p : Places) (s : State)
    → AreWordsAt text at (restoring ++ end) → AllRestoring restoring → IsEnd (places_after_all p restoring).sp end
    → Ending mask text at s
unfolding Ending IsQuietList
restoring-ending mask text at [] end p s stands restore ends =
    let q = end-quiet p.sp end ends in
    let P : List ℕ → Type 0 = AreWordsAt text at in
    quiet-ending mask text at q.0 q.1 s (is_branch q.0) refl (subst P q.2 stands) q.3
restoring-ending mask text at (word ∷ restoring) end p s stands restore ends =
    let step = restoring-step mask word s restore.0 in
    let rest = restoring-ending mask text (at + 4) restoring end (places_after p word) step.0 stands.1 restore.1 ends in
    let none : is_branch word ≡ false = false_from_ne_true (is_branch word) (λ branch. let t =
    branch-not-restoring word branch in let u = restore.0 in cc) in
    (suc rest.0, rest.1, (word, stands.0, none, step.0, step.1, rest.2))

pub ends-from : (text : List ℕ) (pc : ℕ) (rule : UnwindRuleAarch64) → IsEpilogueRule text pc rule → EndsFrom text pc
unfolding Ending
ends-from text pc rule (restored is e) = λ mask here.
    let q = restored-quiet text pc is in
    let out = quiet-ending mask text pc q.0 q.1 here (is_branch q.0) refl q.2 q.3 in
    (out.0, out.1, shape-run_out mask text out.0 pc here out.1 out.2)
ends-from text pc rule (restores not_restored rest) = λ mask here.
    let out = restoring-ending mask text pc rest.restoring rest.end at_pc here rest.stands rest.restore rest.ends in
    (out.0, out.1, shape-run_out mask text out.0 pc here out.1 out.2)

-- ---- the run of a prologue

run-step : (mask word : ℕ) (s : State) → is_run_word word ≡ true → (t : State) × Step mask word s t
run-step mask word s e = elim (or_cases (is_pacibsp word || is_store word) (is_sub_sp word) e) [
  | inl first ↦ elim (or_cases (is_pacibsp word) (is_store word) first) [
    | inl sign ↦ (
      s,
      quiet-step mask word s
          (or_left (is_signing word) (is_other word) (or_left (is_pacibsp word) (is_autibsp word) sign)),
    )
    | inr store ↦ (record s { sp = sp_after_access word s.sp }, store-step mask word s _ store refl)
  ]
  | inr sub ↦ (with_sp_moved s (pos 0 -ℤ pos (immediate word)), sub-step mask word s _ sub refl)
]

run-reaches : (mask : ℕ) (bytes : List ℕ) (at : ℕ) (run : List ℕ) (s : State) → IsRun bytes at run
    → (t : State) × Run mask run s t
run-reaches mask bytes at [] s stands = (s, refl)
run-reaches mask bytes at (word ∷ run) s stands =
    let step = run-step mask word s stands.1 in
    let rest = run-reaches mask bytes (at + 4) run step.0 stands.2 in
    (rest.0, (step.0, step.1, rest.1))

pub reaches-from : (before after : List ℕ) (rule : UnwindRuleAarch64) → IsPrologueRule before after rule
    → ReachesFrom before
reaches-from before after rule p = record {
  run = p.run;
  longest = p.longest;
  reaches = λ mask entry.
      (let reached = run-reaches mask before (4 * p.longest.start) p.run entry p.longest.stands in
      (reached.0, shape-run mask before (4 * p.longest.start) p.run entry reached.0 p.longest.stands reached.1));
}
