-- The rule of a prologue on aarch64 undoes its run.
use Rattle.std.proofs.Common.{◌≡◌, ℕ, ◌+◌, ◌*◌, ◌^◌, ◌<◌, ℤ, pos, ◌+ℤ◌, ◌-ℤ◌, Bool, true, false, cond, nat_eq, not, ◌||◌, List, [], ◌∷◌, Option, Some, None, refl, sym, ap, ◌∙◌, subst, arith}
use Rattle.std.specs.Prelude.{option_map}
use Rattle.std.proofs.lemmas.Int.{ints}
use Rattle.std.proofs.lemmas.Nat.{and_assoc}
use Rattle.std.specs.Int.Bits.{bit_and, and_self}
use Rattle.framehop_core.specs.Memory.{Memory}
use Rattle.framehop_core.specs.Outcome.{answered, above}
use Rattle.framehop_core.specs.Aarch64.Registers.{Registers, strip_ptr_auth}
use Rattle.framehop_core.specs.Aarch64.Rules.{nothing_more, kept, outcome}
use Rattle.framehop_core.specs.Laws.Aarch64.{IsCaller, caller-answered}
use Rattle.framehop_core.specs.declared.aarch64.unwind_rule.UnwindRuleAarch64.{UnwindRuleAarch64}
use Rattle.framehop_core.specs.declared.aarch64.unwind_rule.UnwindRuleAarch64.TheVariants.{NoOp, NoOpIfFirstFrameOtherwiseFp, OffsetSp, OffsetSpIfFirstFrameOtherwiseStackEndsHere, OffsetSpAndRestoreLr, OffsetSpAndRestoreFpAndLr, UseFramePointer, UseFramepointerWithOffsets}
use Rattle.framehop_core.specs.Laws.Basics.{ok-same}
use Rattle.framehop_analysis.specs.Aarch64.Words.{is_store, is_sub_sp, is_pacibsp, addressing, is_indexed, pair_offset, immediate}
use Rattle.framehop_analysis.specs.Aarch64.Machine.{State, SameAddress, HasRegisters, offset_by}
use Rattle.framehop_analysis.specs.Laws.Aarch64.Shapes.{Step, Run}
use Rattle.framehop_analysis.specs.Laws.Aarch64.Encodings.{run-shape}
use Rattle.framehop_analysis.specs.Aarch64.Prologue.{lowered_by, lowered, IsRun, IsRuleOfDepth, IsPrologueRule, UndoesPrologue}
use Rattle.framehop_analysis.specs.Laws.Aarch64.Offsets.{offset_by-fits, offset_by-zero, offset_by-offset_by, offset_by-below}
use Rattle.framehop_analysis.specs.Laws.Aarch64.Runs.{longest-same}

-- ---- the machine's run

-- how far a run has brought the state
record IsLowered (mask : ℕ) (by : ℤ) (s t : State) : Type 0 where
  sp : t.sp ≡ offset_by s.sp (pos 0 -ℤ by)
  fp : t.fp ≡ s.fp
  lr : SameAddress mask s.lr t.lr

-- one instruction, by the tests of its shape
store-step : (word : ℕ) (plain : Bool) (sp : ℕ) → sp < 2 ^ 64
    → cond plain sp (offset_by sp (pair_offset word))
    ≡ offset_by sp (pos 0 -ℤ cond (not plain) (pos 0 -ℤ pair_offset word) (pos 0))
store-step word true sp fits = sym (offset_by-zero sp fits)
store-step word false sp fits = ap (offset_by sp) (omega (arith, ints))

step-lowered : (mask word : ℕ) (s t : State) (store sub signing : Bool) → is_store word ≡ store → is_sub_sp word ≡ sub
    → is_pacibsp word ≡ signing → (signing || store || sub) ≡ true → s.sp < 2 ^ 64 → Step mask word s t
    → IsLowered mask
    (cond store (cond (is_indexed word) (pos 0 -ℤ pair_offset word) (pos 0))
    (cond sub (pos (immediate word)) (pos 0))) s t
step-lowered mask word s t true sub signing store_is sub_is signing_is run fits step =
    let moved = step.stores store_is in
    record {
      sp = ap (λ u. u.sp) moved ∙ store-step word (nat_eq (addressing word) 2) s.sp fits;
      fp = ap (λ u. u.fp) moved;
      lr = ap (λ u. option_map (strip_ptr_auth mask) u.lr) (sym moved);
    }
step-lowered mask word s t false true signing store_is sub_is signing_is run fits step =
    let moved = step.subs sub_is in
    record {
      sp = ap (λ u. u.sp) moved;
      fp = ap (λ u. u.fp) moved;
      lr = ap (λ u. option_map (strip_ptr_auth mask) u.lr) (sym moved);
    }
step-lowered mask word s t false false true store_is sub_is signing_is run fits step =
    let signs = step.signs (let e = signing_is in cc) in
    record {
      sp = ap (λ u. u.sp) signs.others ∙ sym (offset_by-zero s.sp fits);
      fp = ap (λ u. u.fp) signs.others;
      lr = signs.address;
    }
step-lowered mask word s t false false false store_is sub_is signing_is run fits step = cc

run-lowered : (mask at : ℕ) (bytes run : List ℕ) (s t : State) → IsRun bytes at run → s.sp < 2 ^ 64 → Run mask run s t
    → IsLowered mask (lowered run) s t
run-lowered mask at bytes [] s t stands fits e = record {
  sp = ap (λ u. u.sp) (sym e) ∙ sym (offset_by-zero s.sp fits);
  fp = ap (λ u. u.fp) (sym e);
  lr = ap (λ u. option_map (strip_ptr_auth mask) u.lr) e;
}
run-lowered mask at bytes (word ∷ run) s t stands fits (next, step, rest) =
    let first =
    step-lowered mask word s next (is_store word) (is_sub_sp word)
    (is_pacibsp word) refl refl refl stands.1 fits step in
    let next_fits : next.sp < 2 ^ 64 = rw first.sp (offset_by-below s.sp (pos 0 -ℤ lowered_by word)) in
    let later = run-lowered mask (at + 4) bytes run next t stands.2 next_fits rest in
    record {
      sp = later.sp ∙ ap (λ n. offset_by n (pos 0 -ℤ lowered run)) first.sp
          ∙ offset_by-offset_by s.sp (pos 0 -ℤ lowered_by word) (pos 0 -ℤ lowered run)
          ∙ ap (offset_by s.sp) (omega (arith, ints));
      fp = later.fp ∙ first.fp;
      lr = first.lr ∙ later.lr;
    }

-- ---- the rule

strip-strip : (mask pointer : ℕ) → strip_ptr_auth mask (strip_ptr_auth mask pointer) ≡ strip_ptr_auth mask pointer
strip-strip mask pointer = and_assoc mask pointer mask ∙ ap (bit_and pointer) (and_self mask)

-- a value of lr whose stripped one is known is stripped to the same again
pub stripped-again : (mask value : ℕ) (lr : Option ℕ) → option_map (strip_ptr_auth mask) lr ≡ Some value
    → strip_ptr_auth mask value ≡ value
stripped-again mask value None e = cc
stripped-again mask value (Some pointer) e =
    let same : strip_ptr_auth mask pointer ≡ value = cc in
    ap (strip_ptr_auth mask) (sym same) ∙ strip-strip mask pointer ∙ same

-- sp at the entry, from the depth that the rule adds
entry-sp : (entry here n : ℕ) (depth : ℤ) (x : ℕ) → entry < 2 ^ 64 → here ≡ offset_by entry (pos 0 -ℤ depth)
    → depth ≡ pos x → pos here +ℤ pos x ≡ pos n → n < 2 ^ 64 → entry ≡ n
entry-sp entry here n depth x fits here_is depth_is sum n_fits =
    let cancels : (pos 0 -ℤ depth) +ℤ pos x ≡ pos 0 = omega (arith, ints) in
    let back : offset_by here (pos x) ≡ n = offset_by-fits here n (pos x) sum n_fits in
    let there : offset_by here (pos x) ≡ entry =
    ap (λ m. offset_by m (pos x)) here_is
    ∙ offset_by-offset_by entry (pos 0 -ℤ depth) (pos x)
    ∙ ap (offset_by entry) cancels
    ∙ offset_by-zero entry fits in
    sym there ∙ back

-- a rule that adds an offset to sp and keeps the other registers
offset-undoes : (mask : ℕ) (depth : ℤ) (x : ℕ) (sp : ℤ) (r new : Registers) (entry here : State) (address : ℕ)
    → mask ≡ r.lr_mask → depth ≡ pos x → sp ≡ pos r.sp +ℤ pos x → entry.sp < 2 ^ 64 → IsLowered mask depth entry here
    → HasRegisters r here → IsCaller sp (kept r.lr) (kept r.fp) nothing_more true r here.memory address new
    → HasRegisters new entry × (new.lr_mask ≡ r.lr_mask) × (address ≡ new.lr)
offset-undoes mask depth x sp r new entry here address mask_is depth_is sp_is fits lowered stands c =
    let new_lr : r.lr ≡ c.new_lr = ok-same r.lr c.new_lr c.lr_is in
    let new_fp : r.fp ≡ c.new_fp = ok-same r.fp c.new_fp c.fp_is in
    let again : strip_ptr_auth r.lr_mask r.lr ≡ r.lr = stripped-again r.lr_mask r.lr here.lr stands.lr in
    let stripped : address ≡ r.lr = c.end.stripped ∙ ap (strip_ptr_auth r.lr_mask) (sym new_lr) ∙ again in
    let sum : pos here.sp +ℤ pos x ≡ pos c.new_sp = ap (λ n. pos n +ℤ pos x) stands.sp ∙ sym sp_is ∙ c.sp_is in
    let sp : entry.sp ≡ c.new_sp = entry-sp entry.sp here.sp c.new_sp depth x fits lowered.sp depth_is sum c.sp_fits in
    let mask_kept : new.lr_mask ≡ r.lr_mask = ap (λ u. u.lr_mask) c.end.registers in
    let lr_is : new.lr ≡ address = ap (λ u. u.lr) c.end.registers in
    let entry_lr : option_map (strip_ptr_auth r.lr_mask) entry.lr ≡ Some r.lr =
    ap (λ m. option_map (strip_ptr_auth m) entry.lr) (sym mask_is) ∙ lowered.lr
    ∙ ap (λ m. option_map (strip_ptr_auth m) here.lr) mask_is ∙ stands.lr in (
      record {
        sp = sp ∙ sym (ap (λ u. u.sp) c.end.registers);
        fp = sym lowered.fp ∙ stands.fp ∙ ap Some (new_fp ∙ sym (ap (λ u. u.fp) c.end.registers));
        lr = ap (λ m. option_map (strip_ptr_auth m) entry.lr) mask_kept ∙ entry_lr ∙ ap Some (sym (lr_is ∙ stripped));
      },
      mask_kept,
      sym lr_is,
    )

-- what a rule answers, over an equal memory
pub at-memory : (rule : UnwindRuleAarch64) (first : Bool) (r new : Registers) (m n : Memory) (address : ℕ) → m ≡ n
    → outcome rule first r m ≡ answered address new → outcome rule first r n ≡ answered address new
at-memory rule first r new m n address same e =
    let P : Memory → Type 0 = λ memory. outcome rule first r memory ≡ answered address new in subst P same e

-- in a first frame
as-first : (rule : UnwindRuleAarch64) (first : Bool) (r new : Registers) (m : Memory) (address : ℕ) → first ≡ true
    → outcome rule first r m ≡ answered address new → outcome rule true r m ≡ answered address new
as-first rule first r new m address is e =
    let P : Bool → Type 0 = λ b. outcome rule b r m ≡ answered address new in subst P is e

undoes-run : (bytes run : List ℕ) (at : ℕ) (rule : UnwindRuleAarch64) (r new : Registers) (entry here : State)
    (address : ℕ) → IsRun bytes at run → IsRuleOfDepth (lowered run) rule → entry.sp < 2 ^ 64
    → Run r.lr_mask run entry here → HasRegisters r here → outcome rule true r here.memory ≡ answered address new
    → HasRegisters new entry × (new.lr_mask ≡ r.lr_mask) × (address ≡ new.lr)
undoes-run bytes run at NoOp r new entry here address stands made fits ran holds e =
    offset-undoes r.lr_mask (lowered run) 0 (pos r.sp) r new entry here address refl made (omega (arith, ints)) fits
    (run-lowered r.lr_mask at bytes run entry here stands fits ran) holds
    (caller-answered _ _ _ _ true r here.memory address new e)
undoes-run bytes run at (OffsetSp x) r new entry here address stands made fits ran holds e =
    offset-undoes r.lr_mask (lowered run) (x * 16)
    (above r.sp (x * 16)) r new entry here address refl made.0.0 refl fits
    (run-lowered r.lr_mask at bytes run entry here stands fits ran) holds
    (caller-answered _ _ _ _ true r here.memory address new e)
undoes-run bytes run at NoOpIfFirstFrameOtherwiseFp r new entry here address stands made fits ran holds e =
    elim made [ ]
undoes-run bytes run at (OffsetSpIfFirstFrameOtherwiseStackEndsHere x) r new entry here address stands made fits ran
    holds e = elim made [ ]
undoes-run bytes run at (OffsetSpAndRestoreLr x z) r new entry here address stands made fits ran holds e = elim made [ ]
undoes-run bytes run at (OffsetSpAndRestoreFpAndLr x y z) r new entry here address stands made fits ran holds e =
    elim made [ ]
undoes-run bytes run at UseFramePointer r new entry here address stands made fits ran holds e = elim made [ ]
undoes-run bytes run at (UseFramepointerWithOffsets x y z) r new entry here address stands made fits ran holds e =
    elim made [ ]

pub undoes : (before after : List ℕ) (rule : UnwindRuleAarch64) → IsPrologueRule before after rule
    → UndoesPrologue before rule
undoes before after rule p first r new memory address e run longest is entry here fits ran holds same =
    let at = at-memory rule true r new memory here.memory address (sym same)
    (as-first rule first r new memory address is e) in
    let one : run ≡ p.run = longest-same before run p.run longest p.longest in
    let P : List ℕ → Type 0 = λ words. Run r.lr_mask words entry here in
    undoes-run before p.run (4 * p.longest.start) rule r new entry here address p.longest.stands p.made fits
    (subst P one (run-shape r.lr_mask before (4 * longest.start) run entry here longest.stands ran)) holds at
