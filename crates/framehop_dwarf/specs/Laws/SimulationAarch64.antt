-- aarch64: a rule that a row is translated to does what the row means.
use Rattle.std.proofs.Common.{◌≡◌, ℕ, ◌*◌, Bool, true, false, Option, Some, None, Ok, ℤ, pos, ◌+ℤ◌, ◌*ℤ◌, ◌∙◌, ap, sym, subst, refl, arith, inl, inr, ◌==◌, ◌&&◌, List}
use Rattle.std.specs.Ordering.{int_eq}
use Rattle.std.proofs.lemmas.Int.{ints}
use Rattle.std.proofs.lemmas.Bool.{cases_Bool, and_parts, eqb-true}
use Rattle.std.proofs.lemmas.Option.{same_Some}
use Rattle.framehop_bytes.specs.Minus.{minus}
use Rattle.framehop_core.specs.Memory.{Memory}
use Rattle.framehop_core.specs.Outcome.{answered, above, beside}
use Rattle.framehop_core.specs.Aarch64.Registers.{Registers, strip_ptr_auth}
use Rattle.framehop_core.specs.Aarch64.Rules.{Source, kept, stored_at, Demand, nothing_more, frame_pointer_rises, caller, value_from, outcome, outcome_of_line}
use Rattle.framehop_core.specs.Laws.Aarch64.{caller-answered}
use Rattle.framehop_core.specs.Laws.Basics.{ok-same, option_map-some}
use Rattle.framehop_core.specs.declared.aarch64.unwind_rule.UnwindRuleAarch64.{UnwindRuleAarch64}
use Rattle.framehop_core.specs.declared.aarch64.unwind_rule.UnwindRuleAarch64.TheVariants.{OffsetSp, OffsetSpIfFirstFrameOtherwiseStackEndsHere, OffsetSpAndRestoreLr, OffsetSpAndRestoreFpAndLr, UseFramePointer, UseFramepointerWithOffsets}
use Rattle.framehop_cfi.specs.Row.{Row, rule_of}
use Rattle.framehop_cfi.specs.Aarch64.{X29, SP}
use Rattle.framehop_cfi.specs.declared.rule.Register.{Register}
use Rattle.framehop_cfi.specs.declared.rule.CfaRule.{CfaRule}
use Rattle.framehop_cfi.specs.declared.rule.CfaRule.TheVariants as cfa
use Rattle.framehop_cfi.specs.declared.rule.RegisterRule.{RegisterRule}
use Rattle.framehop_cfi.specs.declared.rule.RegisterRule.TheVariants as rule
use Rattle.framehop_dwarf.specs.Units.{units_of, signed_units_of}
use Rattle.framehop_dwarf.specs.RowMeaning.{IsCfa}
use Rattle.framehop_dwarf.specs.Aarch64.{with_fp, with_fp_kept, with_lr, by_sp, by_fp, by_saved, beside_fp, translated_by, translated, scope_of, column_of, fp_column, lr_column, IsFramePointer, IsLinkRegister, RowMeans}
use Rattle.framehop_dwarf.specs.Laws.Exact.{int_same, units-exact, signed_units-exact}
use Rattle.framehop_dwarf.specs.Laws.ValueMeaning.{bind_some}
use Rattle.framehop_dwarf.specs.Laws.SimulationX86_64.{word_from-stored}

module _ (bytes : List ℕ) (memory : Memory) (first : Bool) (old : Registers) (address : ℕ) (new : Registers) where
  -- what a line of the rules' table has found
  record Found (sp : ℤ) (lr fp : Source) : Type 0 where
    link : ℕ
    is_sp : sp ≡ pos new.sp
    lr_is : value_from memory lr ≡ Ok link
    fp_is : value_from memory fp ≡ Ok new.fp
    stripped : address ≡ strip_ptr_auth old.lr_mask link
    is_lr : new.lr ≡ address

  found : (sp : ℤ) (lr fp : Source) (demand : Demand)
      → outcome_of_line (caller sp lr fp demand) first old memory ≡ answered address new → Found sp lr fp
  found sp lr fp demand e =
      let c = caller-answered sp lr fp demand first old memory address new e in
      record {
        link = c.new_lr;
        is_sp = c.sp_is ∙ ap pos (sym (ap (λ r. r.sp) c.end.registers));
        lr_is = c.lr_is;
        fp_is = c.fp_is ∙ ap Ok (sym (ap (λ r. r.fp) c.end.registers));
        stripped = c.end.stripped;
        is_lr = ap (λ r. r.lr) c.end.registers;
      }

  abbrev Answers : UnwindRuleAarch64 → Type 0
  Answers told = outcome told first old memory ≡ answered address new

  offset_sp : (kind : Bool) (x : ℕ) → kind ≡ first → outcome (OffsetSp x) kind old memory ≡ answered address new
      → Found (above old.sp (x * 16)) (kept old.lr) (kept old.fp)
  offset_sp true x is e =
      found (above old.sp (x * 16)) (kept old.lr) (kept old.fp) nothing_more
      (subst
      (λ k. outcome_of_line (caller (above old.sp (x * 16)) (kept old.lr) (kept old.fp) nothing_more) k old memory
      ≡ answered address new) is e)
  offset_sp false x is e = cc

  stack_ends : (kind : Bool) (x : ℕ) → kind ≡ first
      → outcome (OffsetSpIfFirstFrameOtherwiseStackEndsHere x) kind old memory ≡ answered address new
      → (first ≡ true) × Found (above old.sp (x * 16)) (kept old.lr) (kept old.fp)
  stack_ends true x is e = (
    sym is,
    found (above old.sp (x * 16)) (kept old.lr) (kept old.fp) nothing_more
        (subst
        (λ k. outcome_of_line (caller (above old.sp (x * 16)) (kept old.lr) (kept old.fp) nothing_more) k old memory
        ≡ answered address new) is e),
  )
  stack_ends false x is e = cc

  -- what the row's three rules mean
  record Means (cfa_rule : CfaRule) (fp_rule lr_rule : Option RegisterRule) : Type 0 where
    lr : ℕ
    cfa : IsCfa (scope_of bytes None old) cfa_rule new.sp
    link_register : IsLinkRegister (scope_of bytes None old) first memory old new.sp lr_rule lr
    frame_pointer : IsFramePointer (scope_of bytes None old) memory old new.sp fp_rule new.fp
    stripped : address ≡ strip_ptr_auth old.lr_mask lr
    new_lr : new.lr ≡ address

  made : (cfa_rule : CfaRule) (fp_rule lr_rule : Option RegisterRule) (sp : ℤ) (lr fp : Source) → (f : Found sp lr fp)
      → IsCfa (scope_of bytes None old) cfa_rule new.sp
      → IsLinkRegister (scope_of bytes None old) first memory old new.sp lr_rule f.link
      → IsFramePointer (scope_of bytes None old) memory old new.sp fp_rule new.fp → Means cfa_rule fp_rule lr_rule
  made cfa_rule fp_rule lr_rule sp lr fp f is_cfa is_link is_fp = record {
    lr = f.link;
    cfa = is_cfa;
    link_register = is_link;
    frame_pointer = is_fp;
    stripped = f.stripped;
    new_lr = f.is_lr;
  }

  sp-column : (register : Register) → register.0 ≡ 31 → column_of old register ≡ Some old.sp
  sp-column register is = rw is refl

  fp-column : (register : Register) → register.0 ≡ 29 → column_of old register ≡ Some old.fp
  fp-column register is = rw is refl

  scaled : (base x size : ℕ) (offset : ℤ) → pos x *ℤ pos size ≡ offset → above base (x * size) ≡ pos base +ℤ offset
  scaled base x size offset is = rw (← is) (omega (arith, ints))

  by-cfa : (base x size : ℕ) (offset : ℤ) → pos x *ℤ pos size ≡ offset → above base (x * size) ≡ pos new.sp
      → pos base +ℤ offset ≡ pos new.sp
  by-cfa base x size offset exact is = sym (scaled base x size offset exact) ∙ is

  beside-cfa : (base : ℕ) (y : ℤ) (offset saved : ℤ) → pos base +ℤ offset ≡ pos new.sp → y *ℤ pos 8 ≡ offset +ℤ saved
      → beside base y ≡ pos new.sp +ℤ saved
  beside-cfa base y offset saved is exact = omega (arith, ints, is, exact)

  -- fp that is kept
  abbrev KeptFp : Option RegisterRule → Type 0
  KeptFp fp_rule = new.fp ≡ old.fp → IsFramePointer (scope_of bytes None old) memory old new.sp fp_rule new.fp

  kept-fp : (told wanted : UnwindRuleAarch64) (fp_rule : Option RegisterRule) → with_fp_kept told fp_rule ≡ Some wanted
      → KeptFp fp_rule × (told ≡ wanted)
  kept-fp told wanted None is = ((λ k. k), same_Some told wanted is)
  kept-fp told wanted (Some rule.Undefined) is = ((λ k. k), same_Some told wanted is)
  kept-fp told wanted (Some rule.SameValue) is = ((λ k. k), same_Some told wanted is)
  kept-fp told wanted (Some (rule.Offset saved)) is = cc
  kept-fp told wanted (Some (rule.ValOffset saved)) is = cc
  kept-fp told wanted (Some (rule.Register other)) is = cc
  kept-fp told wanted (Some (rule.Expression expression)) is = cc
  kept-fp told wanted (Some (rule.ValExpression expression)) is = cc

  same-kept : (own value : ℕ) → value_from memory (kept own) ≡ Ok value → value ≡ own
  same-kept own value is = sym (ok-same own value is)

  by-offset_sp : (register : Register) (offset : ℤ) (x : ℕ) (fp_rule lr_rule : Option RegisterRule) → register.0 ≡ 31
      → pos x *ℤ pos 16 ≡ offset → KeptFp fp_rule
      → ((link : ℕ) → link ≡ old.lr → IsLinkRegister (scope_of bytes None old) first memory old new.sp lr_rule link)
      → Found (above old.sp (x * 16)) (kept old.lr) (kept old.fp)
      → Means (cfa.RegisterAndOffset register offset) fp_rule lr_rule
  by-offset_sp register offset x fp_rule lr_rule is exact keeps links f =
      made (cfa.RegisterAndOffset register offset) fp_rule lr_rule (above old.sp (x * 16)) (kept old.lr) (kept old.fp) f
      (old.sp, sp-column register is, by-cfa old.sp x 16 offset exact f.is_sp)
      (links f.link (same-kept old.lr f.link f.lr_is))
      (keeps (same-kept old.fp new.fp f.fp_is))

  by-restore_lr : (register : Register) (offset saved : ℤ) (x : ℕ) (z : ℤ) (fp_rule : Option RegisterRule)
      → register.0 ≡ 31 → pos x *ℤ pos 16 ≡ offset → z *ℤ pos 8 ≡ offset +ℤ saved → KeptFp fp_rule
      → Answers (OffsetSpAndRestoreLr x z)
      → Means (cfa.RegisterAndOffset register offset) fp_rule (Some (rule.Offset saved))
  by-restore_lr register offset saved x z fp_rule is exact exact_saved keeps e =
      let f = found (above old.sp (x * 16)) (stored_at (beside old.sp z)) (kept old.fp) nothing_more e in
      let sp = by-cfa old.sp x 16 offset exact f.is_sp in
      made (cfa.RegisterAndOffset register offset) fp_rule (Some (rule.Offset saved)) (above old.sp (x * 16))
      (stored_at (beside old.sp z)) (kept old.fp) f
      (old.sp, sp-column register is, sp)
      (word_from-stored memory new.sp (beside old.sp z) saved f.link
      (beside-cfa old.sp z offset saved sp exact_saved) f.lr_is)
      (keeps (same-kept old.fp new.fp f.fp_is))

  by-restore_both : (register : Register) (offset saved_fp saved_lr : ℤ) (x : ℕ) (y z : ℤ) → register.0 ≡ 31
      → pos x *ℤ pos 16 ≡ offset → y *ℤ pos 8 ≡ offset +ℤ saved_fp → z *ℤ pos 8 ≡ offset +ℤ saved_lr
      → Answers (OffsetSpAndRestoreFpAndLr x y z)
      → Means (cfa.RegisterAndOffset register offset) (Some (rule.Offset saved_fp)) (Some (rule.Offset saved_lr))
  by-restore_both register offset saved_fp saved_lr x y z is exact exact_fp exact_lr e =
      let f =
      found (above old.sp (x * 16)) (stored_at (beside old.sp z)) (stored_at (beside old.sp y)) nothing_more e in
      let sp = by-cfa old.sp x 16 offset exact f.is_sp in
      made (cfa.RegisterAndOffset register offset) (Some (rule.Offset saved_fp)) (Some (rule.Offset saved_lr))
      (above old.sp (x * 16)) (stored_at (beside old.sp z)) (stored_at (beside old.sp y)) f
      (old.sp, sp-column register is, sp)
      (word_from-stored memory new.sp (beside old.sp z) saved_lr f.link
      (beside-cfa old.sp z offset saved_lr sp exact_lr) f.lr_is)
      (word_from-stored memory new.sp (beside old.sp y) saved_fp new.fp
      (beside-cfa old.sp y offset saved_fp sp exact_fp) f.fp_is)

  by-beside_fp : (register : Register) (offset saved_fp saved_lr : ℤ) (x : ℕ) (y z : ℤ) → register.0 ≡ 29
      → pos x *ℤ pos 8 ≡ offset → y *ℤ pos 8 ≡ offset +ℤ saved_fp → z *ℤ pos 8 ≡ offset +ℤ saved_lr
      → Answers (UseFramepointerWithOffsets x y z)
      → Means (cfa.RegisterAndOffset register offset) (Some (rule.Offset saved_fp)) (Some (rule.Offset saved_lr))
  by-beside_fp register offset saved_fp saved_lr x y z is exact exact_fp exact_lr e =
      let f =
      found (above old.fp (x * 8)) (stored_at (beside old.fp z)) (stored_at (beside old.fp y)) frame_pointer_rises e in
      let sp = by-cfa old.fp x 8 offset exact f.is_sp in
      made (cfa.RegisterAndOffset register offset) (Some (rule.Offset saved_fp)) (Some (rule.Offset saved_lr))
      (above old.fp (x * 8)) (stored_at (beside old.fp z)) (stored_at (beside old.fp y)) f
      (old.fp, fp-column register is, sp)
      (word_from-stored memory new.sp (beside old.fp z) saved_lr f.link
      (beside-cfa old.fp z offset saved_lr sp exact_lr) f.lr_is)
      (word_from-stored memory new.sp (beside old.fp y) saved_fp new.fp
      (beside-cfa old.fp y offset saved_fp sp exact_fp) f.fp_is)

  below-16 : above old.fp 16 ≡ pos new.sp → pos old.fp ≡ pos new.sp +ℤ minus 16
  below-16 is = omega (arith, ints, is)

  below-8 : above old.fp 16 ≡ pos new.sp → above old.fp 8 ≡ pos new.sp +ℤ minus 8
  below-8 is = omega (arith, ints, is)

  by-frame_pointer : (register : Register) → register.0 ≡ 29 → Answers UseFramePointer
      → Means (cfa.RegisterAndOffset register (pos 16)) (Some (rule.Offset (minus 16))) (Some (rule.Offset (minus 8)))
  by-frame_pointer register is e =
      let f = found (above old.fp 16) (stored_at (above old.fp 8)) (stored_at (pos old.fp)) frame_pointer_rises e in
      made (cfa.RegisterAndOffset register (pos 16)) (Some (rule.Offset (minus 16))) (Some (rule.Offset (minus 8)))
      (above old.fp 16) (stored_at (above old.fp 8)) (stored_at (pos old.fp)) f
      (old.fp, fp-column register is, f.is_sp)
      (word_from-stored memory new.sp (above old.fp 8) (minus 8) f.link (below-8 f.is_sp) f.lr_is)
      (word_from-stored memory new.sp (pos old.fp) (minus 16) new.fp (below-16 f.is_sp) f.fp_is)

  -- ---- the tables

  by-with_fp : (register : Register) (offset saved : ℤ) (x : ℕ) (z : ℤ) (fp_rule : Option RegisterRule)
      (told : UnwindRuleAarch64) → register.0 ≡ 31 → pos x *ℤ pos 16 ≡ offset → z *ℤ pos 8 ≡ offset +ℤ saved
      → with_fp x offset z fp_rule ≡ Some told → Answers told
      → Means (cfa.RegisterAndOffset register offset) fp_rule (Some (rule.Offset saved))
  by-with_fp register offset saved x z None told is exact exact_saved tells e =
      by-restore_lr register offset saved x z None is exact exact_saved (λ k. k)
      (subst Answers (sym (same_Some (OffsetSpAndRestoreLr x z) told tells)) e)
  by-with_fp register offset saved x z (Some rule.Undefined) told is exact exact_saved tells e =
      by-restore_lr register offset saved x z (Some rule.Undefined) is exact exact_saved (λ k. k)
      (subst Answers (sym (same_Some (OffsetSpAndRestoreLr x z) told tells)) e)
  by-with_fp register offset saved x z (Some rule.SameValue) told is exact exact_saved tells e =
      by-restore_lr register offset saved x z (Some rule.SameValue) is exact exact_saved (λ k. k)
      (subst Answers (sym (same_Some (OffsetSpAndRestoreLr x z) told tells)) e)
  by-with_fp register offset saved x z (Some (rule.Offset saved_fp)) told is exact exact_saved tells e =
      let y = option_map-some (λ w. OffsetSpAndRestoreFpAndLr x w z) (signed_units_of 8 (offset +ℤ saved_fp)) told tells in
      by-restore_both register offset saved_fp saved x y.0 z is exact
      (signed_units-exact 8 (offset +ℤ saved_fp) y.0 y.1) exact_saved (subst Answers (sym y.2) e)
  by-with_fp register offset saved x z (Some (rule.ValOffset other)) told is exact exact_saved tells e = cc
  by-with_fp register offset saved x z (Some (rule.Register other)) told is exact exact_saved tells e = cc
  by-with_fp register offset saved x z (Some (rule.Expression expression)) told is exact exact_saved tells e = cc
  by-with_fp register offset saved x z (Some (rule.ValExpression expression)) told is exact exact_saved tells e = cc

  by-with_lr : (register : Register) (offset : ℤ) (x : ℕ) (fp_rule lr_rule : Option RegisterRule)
      (told : UnwindRuleAarch64) → register.0 ≡ 31 → pos x *ℤ pos 16 ≡ offset
      → with_lr x offset fp_rule lr_rule ≡ Some told → Answers told
      → Means (cfa.RegisterAndOffset register offset) fp_rule lr_rule
  by-with_lr register offset x fp_rule None told is exact tells e =
      let k = kept-fp (OffsetSp x) told fp_rule tells in
      by-offset_sp register offset x fp_rule None is exact k.0 (λ link same. same)
      (offset_sp first x refl (subst Answers (sym k.1) e))
  by-with_lr register offset x fp_rule (Some rule.SameValue) told is exact tells e =
      let k = kept-fp (OffsetSp x) told fp_rule tells in
      by-offset_sp register offset x fp_rule (Some rule.SameValue) is exact k.0 (λ link same. same)
      (offset_sp first x refl (subst Answers (sym k.1) e))
  by-with_lr register offset x fp_rule (Some rule.Undefined) told is exact tells e =
      let k = kept-fp (OffsetSpIfFirstFrameOtherwiseStackEndsHere x) told fp_rule tells in
      let f = stack_ends first x refl (subst Answers (sym k.1) e) in
      by-offset_sp register offset x fp_rule (Some rule.Undefined) is exact k.0 (λ link same. (f.0, same)) f.1
  by-with_lr register offset x fp_rule (Some (rule.Offset saved)) told is exact tells e =
      let z = bind_some (signed_units_of 8 (offset +ℤ saved)) (λ words. with_fp x offset words fp_rule) told tells in
      by-with_fp register offset saved x z.0 fp_rule told is exact
      (signed_units-exact 8 (offset +ℤ saved) z.0 z.1) z.2 e
  by-with_lr register offset x fp_rule (Some (rule.ValOffset other)) told is exact tells e = cc
  by-with_lr register offset x fp_rule (Some (rule.Register other)) told is exact tells e = cc
  by-with_lr register offset x fp_rule (Some (rule.Expression expression)) told is exact tells e = cc
  by-with_lr register offset x fp_rule (Some (rule.ValExpression expression)) told is exact tells e = cc

  by-by_saved : (register : Register) (offset fp lr : ℤ) (told : UnwindRuleAarch64) → register.0 ≡ 29
      → by_saved offset fp lr ≡ Some told → Answers told
      → Means (cfa.RegisterAndOffset register offset) (Some (rule.Offset fp)) (Some (rule.Offset lr))
  by-by_saved register offset fp lr told is tells e =
      elim (cases_Bool (int_eq offset (pos 16) && int_eq fp (minus 16) && int_eq lr (minus 8))) [
        | inl usual ↦
            let outer = and_parts (int_eq offset (pos 16) && int_eq fp (minus 16)) (int_eq lr (minus 8)) usual in
            let inner = and_parts (int_eq offset (pos 16)) (int_eq fp (minus 16)) outer.0 in
            let same = same_Some UseFramePointer told (rw usual at tells) in
            let o = int_same offset (pos 16) inner.0 in
            let s = int_same fp (minus 16) inner.1 in
            let l = int_same lr (minus 8) outer.1 in
            subst (λ p. Means (cfa.RegisterAndOffset register p) (Some (rule.Offset fp)) (Some (rule.Offset lr)))
            (sym o)
            (subst (λ p. Means (cfa.RegisterAndOffset register (pos 16)) (Some (rule.Offset p)) (Some (rule.Offset lr)))
            (sym s)
            (subst (λ p. Means (cfa.RegisterAndOffset register (pos 16))
            (Some (rule.Offset (minus 16))) (Some (rule.Offset p)))
            (sym l)
            (by-frame_pointer register is (subst Answers (sym same) e))))
        | inr unusual ↦
            let f : beside_fp offset fp lr ≡ Some told = rw unusual at tells in
            let x = bind_some (units_of 8 offset) _ told f in
            let y = bind_some (signed_units_of 8 (offset +ℤ fp)) _ told x.2 in
            let z =
            option_map-some (λ w. UseFramepointerWithOffsets x.0 y.0 w) (signed_units_of 8 (offset +ℤ lr)) told y.2 in
            by-beside_fp register offset fp lr x.0 y.0 z.0 is (units-exact 8 offset x.0 x.1)
            (signed_units-exact 8 (offset +ℤ fp) y.0 y.1) (signed_units-exact 8 (offset +ℤ lr) z.0 z.1)
            (subst Answers (sym z.2) e)
      ]

  by-by_fp : (register : Register) (offset : ℤ) (fp_rule lr_rule : Option RegisterRule) (told : UnwindRuleAarch64)
      → register.0 ≡ 29 → by_fp offset fp_rule lr_rule ≡ Some told → Answers told
      → Means (cfa.RegisterAndOffset register offset) fp_rule lr_rule
  by-by_fp register offset None lr_rule told is tells e = cc
  by-by_fp register offset (Some rule.Undefined) lr_rule told is tells e = cc
  by-by_fp register offset (Some rule.SameValue) lr_rule told is tells e = cc
  by-by_fp register offset (Some (rule.Offset fp)) None told is tells e = cc
  by-by_fp register offset (Some (rule.Offset fp)) (Some rule.Undefined) told is tells e = cc
  by-by_fp register offset (Some (rule.Offset fp)) (Some rule.SameValue) told is tells e = cc
  by-by_fp register offset (Some (rule.Offset fp)) (Some (rule.Offset lr)) told is tells e =
      by-by_saved register offset fp lr told is tells e
  by-by_fp register offset (Some (rule.Offset fp)) (Some (rule.ValOffset other)) told is tells e = cc
  by-by_fp register offset (Some (rule.Offset fp)) (Some (rule.Register other)) told is tells e = cc
  by-by_fp register offset (Some (rule.Offset fp)) (Some (rule.Expression other)) told is tells e = cc
  by-by_fp register offset (Some (rule.Offset fp)) (Some (rule.ValExpression other)) told is tells e = cc
  by-by_fp register offset (Some (rule.ValOffset fp)) lr_rule told is tells e = cc
  by-by_fp register offset (Some (rule.Register fp)) lr_rule told is tells e = cc
  by-by_fp register offset (Some (rule.Expression fp)) lr_rule told is tells e = cc
  by-by_fp register offset (Some (rule.ValExpression fp)) lr_rule told is tells e = cc

  by-translated : (cfa_rule : CfaRule) (fp_rule lr_rule : Option RegisterRule) (told : UnwindRuleAarch64)
      → translated_by cfa_rule fp_rule lr_rule ≡ Some told → Answers told → Means cfa_rule fp_rule lr_rule
  by-translated (cfa.Expression expression) fp_rule lr_rule told tells e = cc
  by-translated (cfa.RegisterAndOffset register offset) fp_rule lr_rule told tells e =
      elim (cases_Bool (register.0 == SP)) [
        | inl sp ↦
            let f : by_sp offset fp_rule lr_rule ≡ Some told = rw sp at tells in
            let x = bind_some (units_of 16 offset) (λ units. with_lr units offset fp_rule lr_rule) told f in
            by-with_lr register offset x.0 fp_rule lr_rule told (eqb-true register.0 31 sp)
            (units-exact 16 offset x.0 x.1) x.2 e
        | inr other ↦
            let f = rw other at tells in
            elim (cases_Bool (register.0 == X29)) [
              | inl fp ↦ by-by_fp register offset fp_rule lr_rule told (eqb-true register.0 29 fp) (rw fp at f) e
              | inr none ↦ (let g = rw none at f in cc)
            ]
      ]

  pub translated-means : (row : Row) (told : UnwindRuleAarch64) → translated row ≡ Some told
      → outcome told first old memory ≡ answered address new → RowMeans bytes memory row first old address new
  unfolding translated
  translated-means row told tells e =
      let m = by-translated row.cfa (rule_of row.rules fp_column) (rule_of row.rules lr_column) told tells e in
      record {
        lr = m.lr;
        cfa = m.cfa;
        link_register = m.link_register;
        frame_pointer = m.frame_pointer;
        stripped = m.stripped;
        new_lr = m.new_lr;
      }
