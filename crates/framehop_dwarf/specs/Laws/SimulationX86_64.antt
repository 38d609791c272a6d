-- x86_64: a rule that a row is translated to does what the row means.
use Rattle.std.proofs.Common.{◌≡◌, ℕ, ◌<◌, ◌*◌, Bool, true, false, Option, Some, None, Ok, ℤ, pos, negsuc, ◌+ℤ◌, ◌-ℤ◌, ◌*ℤ◌, ◌∙◌, ap, sym, subst, refl, arith, inl, inr, ◌⊎◌, ◌==◌, ◌&&◌, List, nat_eq}
use Rattle.std.specs.Prelude.{option_map, unwrap_or}
use Rattle.std.specs.Ordering.{int_eq}
use Rattle.std.proofs.lemmas.Int.{ints}
use Rattle.std.proofs.lemmas.Bool.{cases_Bool, and_parts, eqb-true}
use Rattle.std.proofs.lemmas.Option.{same_Some}
use Rattle.framehop_bytes.specs.Minus.{minus}
use Rattle.framehop_core.specs.Memory.{Memory}
use Rattle.framehop_core.specs.Outcome.{answered, address_at, word_at, word_from, above, beside}
use Rattle.framehop_core.specs.Laws.Basics.{ok-same, option_map-some}
use Rattle.framehop_core.specs.Laws.Outcome.{and_then-ok, address_at-ok, word_at-ok}
use Rattle.framehop_core.specs.X86_64.Registers.{Registers}
use Rattle.framehop_core.specs.X86_64.Rules.{kept, stored_at, nothing_more, stack_pointer_rises, value_from, restored_at, frame_pointer_line, frame_pointer_line_with, outcome, outcome_of_line}
use Rattle.framehop_core.specs.Laws.X86_64.{IsFinished, caller-answered}
use Rattle.framehop_core.specs.declared.x86_64.unwind_rule.UnwindRuleX86_64.{UnwindRuleX86_64}
use Rattle.framehop_core.specs.declared.x86_64.unwind_rule.UnwindRuleX86_64.TheVariants.{EndOfStack, OffsetSp, OffsetSpAndRestoreBp, UseFramePointer, UseFramePointerWithOffsets}
use Rattle.framehop_cfi.specs.Row.{Row, rule_of}
use Rattle.framehop_cfi.specs.X86_64.{RBP, RSP}
use Rattle.framehop_cfi.specs.declared.rule.Register.{Register}
use Rattle.framehop_cfi.specs.declared.rule.CfaRule.{CfaRule}
use Rattle.framehop_cfi.specs.declared.rule.CfaRule.TheVariants as cfa
use Rattle.framehop_cfi.specs.declared.rule.RegisterRule.{RegisterRule}
use Rattle.framehop_cfi.specs.declared.rule.RegisterRule.TheVariants as rule
use Rattle.framehop_dwarf.specs.Units.{units_of, signed_units_of}
use Rattle.framehop_dwarf.specs.RowMeaning.{IsStored, IsCfa, IsColumn}
use Rattle.framehop_dwarf.specs.X86_64.{with_bp, by_sp, by_bp, with_offsets, by_cfa, translated_by, translated, scope_of, column_of, bp_column, return_column, IsUnreadable, IsFramePointer, RowMeans}
use Rattle.framehop_dwarf.specs.Laws.Exact.{int_same, units-exact, signed_units-exact}
use Rattle.framehop_dwarf.specs.Laws.ValueMeaning.{bind_some}

-- a word that is read stands at its address
pub word_from-stored : (memory : Memory) (cfa : ℕ) (z offset : ℤ) (value : ℕ) → z ≡ pos cfa +ℤ offset
    → word_from memory z ≡ Ok value → IsStored memory cfa offset value
word_from-stored memory cfa z offset value same is =
    let at = and_then-ok (address_at z) (word_at memory) value is in
    (at.0, sym same ∙ (address_at-ok z at.0 at.1).0, word_at-ok memory at.0 value at.2)

minus-8 : (cfa : ℕ) → pos cfa -ℤ pos 8 ≡ pos cfa +ℤ minus 8
minus-8 cfa = omega (arith, ints)

module _ (first : Bool) (memory : Memory) (old : Registers) (address : ℕ) (new : Registers) where
  -- what a rule has found: the caller's rsp, the return address below it, and rbp
  record Found (sp : ℤ) : Type 0 where
    is_sp : sp ≡ pos new.rsp
    stored : IsStored memory new.rsp (minus 8) address
    is_ip : new.ip ≡ address

  found : (sp : ℤ) (cfa bp : ℕ) → sp ≡ pos cfa → IsFinished old (record old { rsp = cfa; rbp = bp }) memory address new
      → Found sp
  found sp cfa bp is end =
      let same : new.rsp ≡ cfa = ap (λ r. r.rsp) end.registers in
      record {
        is_sp = is ∙ ap pos (sym same);
        stored = word_from-stored memory new.rsp (pos cfa -ℤ pos 8) (minus 8) address (rw same (minus-8 cfa)) end.word;
        is_ip = ap (λ r. r.ip) end.registers;
      }

  offset_sp : (x : ℕ) → outcome (OffsetSp x) first old memory ≡ answered address new
      → Found (above old.rsp (x * 8)) × (new.rbp ≡ old.rbp)
  offset_sp x e =
      let c = caller-answered (above old.rsp (x * 8)) nothing_more kept old memory address new e in
      let bp : new.rbp ≡ c.new_bp = ap (λ r. r.rbp) c.end.registers in
      (found (above old.rsp (x * 8)) c.new_sp c.new_bp c.sp_is c.end, bp ∙ sym (ok-same old.rbp c.new_bp c.bp_is))

  -- rbp that is restored in a first frame or another
  abbrev Restored : ℤ → ℤ → Type 0
  Restored words z =
      (word_from memory z ≡ Ok new.rbp)
      ⊎ ((first ≡ true) × (at : ℕ) × (z ≡ pos at) × (memory at ≡ None) × (new.rbp ≡ old.rbp)
      × ((n : ℕ) × (words ≡ negsuc n)))

  kept-or-read : (o : Option ℕ) (value bp : ℕ) → unwrap_or o value ≡ bp → (o ≡ Some bp) ⊎ ((o ≡ None) × (bp ≡ value))
  kept-or-read (Some w) value bp is = inl (ap Some is)
  kept-or-read None value bp is = inr (refl, sym is)

  restored : (kind : Bool) (words z : ℤ) (bp : ℕ) → kind ≡ first → new.rbp ≡ bp
      → value_from memory old.rbp (restored_at kind words z) ≡ Ok bp → Restored words z
  restored true (pos n) z bp kind same is = inl (is ∙ ap Ok (sym same))
  restored true (negsuc n) z bp kind same is =
      let at = and_then-ok (address_at z) (λ at. Ok (unwrap_or (memory at) old.rbp)) bp is in
      let there = (address_at-ok z at.0 at.1).0 in
      elim (kept-or-read (memory at.0) old.rbp bp (ok-same (unwrap_or (memory at.0) old.rbp) bp at.2)) [
        | inl read ↦ inl (rw at.1 (rw read (ap Ok (sym same))))
        | inr missing ↦ inr (sym kind, at.0, there, missing.0, same ∙ missing.1, (n, refl))
      ]
  restored false (pos n) z bp kind same is = inl (is ∙ ap Ok (sym same))
  restored false (negsuc n) z bp kind same is = inl (is ∙ ap Ok (sym same))

  restore_bp : (x : ℕ) (y : ℤ) → outcome (OffsetSpAndRestoreBp x y) first old memory ≡ answered address new
      → Found (above old.rsp (x * 8)) × Restored y (beside old.rsp y)
  restore_bp x y e =
      let c =
      caller-answered (above old.rsp (x * 8)) nothing_more
      (restored_at first y (beside old.rsp y)) old memory address new e in
      let bp : new.rbp ≡ c.new_bp = ap (λ r. r.rbp) c.end.registers in (
        found (above old.rsp (x * 8)) c.new_sp c.new_bp c.sp_is c.end,
        restored first y
            (beside old.rsp y) c.new_bp refl bp c.bp_is,
      )

  by_frame_pointer : outcome UseFramePointer first old memory ≡ answered address new
      → Found (above old.rbp 16) × (word_from memory (pos old.rbp) ≡ Ok new.rbp)
  by_frame_pointer e =
      elim (cases_Bool (nat_eq old.rbp 0)) [
        | inl zero ↦ (let f = rw zero at e in cc)
        | inr more ↦
            let f : outcome_of_line (frame_pointer_line old) old memory ≡ answered address new = rw more at e in
            let c =
            caller-answered (above old.rbp 16) stack_pointer_rises
            (stored_at (pos old.rbp)) old memory address new f in
            let bp : new.rbp ≡ c.new_bp = ap (λ r. r.rbp) c.end.registers in
            (found (above old.rbp 16) c.new_sp c.new_bp c.sp_is c.end, c.bp_is ∙ ap Ok (sym bp))
      ]

  by_offsets : (x : ℕ) (y : ℤ) → outcome (UseFramePointerWithOffsets x y) first old memory ≡ answered address new
      → Found (above old.rbp (x * 8)) × (word_from memory (beside old.rbp y) ≡ Ok new.rbp)
  by_offsets x y e =
      elim (cases_Bool (nat_eq old.rbp 0)) [
        | inl zero ↦ (let f = rw zero at e in cc)
        | inr more ↦
            let f : outcome_of_line (frame_pointer_line_with x y old) old memory ≡ answered address new
            = rw more at e in
            let c =
            caller-answered (above old.rbp (x * 8)) stack_pointer_rises
            (stored_at (beside old.rbp y)) old memory address new f in
            let bp : new.rbp ≡ c.new_bp = ap (λ r. r.rbp) c.end.registers in
            (found (above old.rbp (x * 8)) c.new_sp c.new_bp c.sp_is c.end, c.bp_is ∙ ap Ok (sym bp))
      ]

-- ---- and so it does what the row means

module _ (bytes : List ℕ) (memory : Memory) (first : Bool) (old : Registers) (address : ℕ) (new : Registers) where
  -- what the rows' three rules mean
  record Means (cfa_rule : CfaRule) (bp_rule return_rule : Option RegisterRule) : Type 0 where
    cfa : IsCfa (scope_of bytes None old) cfa_rule new.rsp
    return_address : IsColumn (scope_of bytes None old) memory new.rsp old.ip return_rule address
    frame_pointer : IsFramePointer (scope_of bytes None old) first memory old new.rsp bp_rule new.rbp
    ip : new.ip ≡ address

  abbrev Answers : UnwindRuleX86_64 → Type 0
  Answers told = outcome told first old memory ≡ answered address new

  abbrev to_column : ℕ → Register
  to_column n = record { 0 = n }

  sp-column : (register : Register) → register.0 ≡ 7 → column_of old register ≡ Some old.rsp
  sp-column register is = rw is refl

  bp-column : (register : Register) → register.0 ≡ 6 → column_of old register ≡ Some old.rbp
  bp-column register is = rw is refl

  scaled : (register x : ℕ) (offset : ℤ) → pos x *ℤ pos 8 ≡ offset → above register (x * 8) ≡ pos register +ℤ offset
  scaled register x offset is = rw (← is) (omega (arith, ints))

  by-offset_sp : (register : Register) (offset : ℤ) (x : ℕ) (bp_rule : Option RegisterRule) → register.0 ≡ 7
      → pos x *ℤ pos 8 ≡ offset
      → (new.rbp ≡ old.rbp → IsFramePointer (scope_of bytes None old) first memory old new.rsp bp_rule new.rbp)
      → Answers (OffsetSp x) → Means (cfa.RegisterAndOffset register offset) bp_rule (Some (rule.Offset (minus 8)))
  by-offset_sp register offset x bp_rule is exact keeps e =
      let f = offset_sp first memory old address new x e in
      record {
        cfa = (old.rsp, sp-column register is, sym (scaled old.rsp x offset exact) ∙ f.0.is_sp);
        return_address = f.0.stored;
        frame_pointer = keeps f.1;
        ip = f.0.is_ip;
      }

  beside-cfa : (register : ℕ) (y : ℤ) (cfa : ℕ) (offset saved : ℤ) → pos register +ℤ offset ≡ pos cfa
      → y *ℤ pos 8 ≡ offset +ℤ saved → beside register y ≡ pos cfa +ℤ saved
  beside-cfa register y cfa offset saved is exact = omega (arith, ints, is, exact)

  lower : (n at : ℕ) → beside old.rsp (negsuc n) ≡ pos at → at < old.rsp
  lower n at is = omega (arith, ints, is)

  as-frame-pointer : (y : ℤ) (cfa : ℕ) (saved : ℤ) → beside old.rsp y ≡ pos cfa +ℤ saved
      → Restored first memory old address new y (beside old.rsp y)
      → IsStored memory cfa saved new.rbp ⊎ IsUnreadable first memory old cfa saved new.rbp
  as-frame-pointer y cfa saved is (inl read) =
      inl (word_from-stored memory cfa (beside old.rsp y) saved new.rbp is read)
  as-frame-pointer y cfa saved is (inr missing) = inr (record {
    in_first = missing.0;
    at = missing.1;
    is_at = sym is ∙ missing.2;
    below_sp = lower missing.5.0 missing.1 (ap (beside old.rsp) (sym missing.5.1) ∙ missing.2);
    unreadable = missing.3;
    kept = missing.4;
  })

  by-restore_bp : (register : Register) (offset saved : ℤ) (x : ℕ) (y : ℤ) → register.0 ≡ 7 → pos x *ℤ pos 8 ≡ offset
      → y *ℤ pos 8 ≡ offset +ℤ saved → Answers (OffsetSpAndRestoreBp x y)
      → Means (cfa.RegisterAndOffset register offset) (Some (rule.Offset saved)) (Some (rule.Offset (minus 8)))
  by-restore_bp register offset saved x y is exact exact_saved e =
      let f = restore_bp first memory old address new x y e in
      let sp = sym (scaled old.rsp x offset exact) ∙ f.0.is_sp in
      record {
        cfa = (old.rsp, sp-column register is, sp);
        return_address = f.0.stored;
        frame_pointer = as-frame-pointer y new.rsp saved (beside-cfa old.rsp y new.rsp offset saved sp exact_saved) f.1;
        ip = f.0.is_ip;
      }

  below-16 : (cfa : ℕ) → above old.rbp 16 ≡ pos cfa → pos old.rbp ≡ pos cfa +ℤ minus 16
  below-16 cfa is = omega (arith, ints, is)

  by-frame_pointer : (register : Register) → register.0 ≡ 6 → Answers UseFramePointer
      → Means (cfa.RegisterAndOffset register (pos 16)) (Some (rule.Offset (minus 16))) (Some (rule.Offset (minus 8)))
  by-frame_pointer register is e =
      let f = by_frame_pointer first memory old address new e in
      record {
        cfa = (old.rbp, bp-column register is, f.0.is_sp);
        return_address = f.0.stored;
        frame_pointer =
            inl (word_from-stored memory new.rsp (pos old.rbp) (minus 16) new.rbp (below-16 new.rsp f.0.is_sp) f.1);
        ip = f.0.is_ip;
      }

  by-offsets : (register : Register) (offset saved : ℤ) (x : ℕ) (y : ℤ) → register.0 ≡ 6 → pos x *ℤ pos 8 ≡ offset
      → y *ℤ pos 8 ≡ offset +ℤ saved → Answers (UseFramePointerWithOffsets x y)
      → Means (cfa.RegisterAndOffset register offset) (Some (rule.Offset saved)) (Some (rule.Offset (minus 8)))
  by-offsets register offset saved x y is exact exact_saved e =
      let f = by_offsets first memory old address new x y e in
      let sp = sym (scaled old.rbp x offset exact) ∙ f.0.is_sp in
      record {
        cfa = (old.rbp, bp-column register is, sp);
        return_address = f.0.stored;
        frame_pointer = inl (word_from-stored memory new.rsp (beside old.rbp y) saved new.rbp
            (beside-cfa old.rbp y new.rsp offset saved sp exact_saved) f.1);
        ip = f.0.is_ip;
      }

  by-with_bp : (register : Register) (offset : ℤ) (x : ℕ) (bp_rule : Option RegisterRule) (told : UnwindRuleX86_64)
      → register.0 ≡ 7 → pos x *ℤ pos 8 ≡ offset → with_bp x offset bp_rule ≡ Some told → Answers told
      → Means (cfa.RegisterAndOffset register offset) bp_rule (Some (rule.Offset (minus 8)))
  by-with_bp register offset x None told is exact tells e =
      by-offset_sp register offset x None is exact (λ kept. kept)
      (subst Answers (sym (same_Some (OffsetSp x) told tells)) e)
  by-with_bp register offset x (Some rule.Undefined) told is exact tells e =
      by-offset_sp register offset x (Some rule.Undefined) is exact (λ kept. kept)
      (subst Answers (sym (same_Some (OffsetSp x) told tells)) e)
  by-with_bp register offset x (Some rule.SameValue) told is exact tells e =
      by-offset_sp register offset x (Some rule.SameValue) is exact (λ kept. kept)
      (subst Answers (sym (same_Some (OffsetSp x) told tells)) e)
  by-with_bp register offset x (Some (rule.Offset saved)) told is exact tells e =
      let y = option_map-some (OffsetSpAndRestoreBp x) (signed_units_of 8 (offset +ℤ saved)) told tells in
      by-restore_bp register offset saved x y.0 is exact (signed_units-exact 8 (offset +ℤ saved) y.0 y.1)
      (subst Answers (sym y.2) e)
  by-with_bp register offset x (Some (rule.ValOffset saved)) told is exact tells e = cc
  by-with_bp register offset x (Some (rule.Register other)) told is exact tells e = cc
  by-with_bp register offset x (Some (rule.Expression expression)) told is exact tells e = cc
  by-with_bp register offset x (Some (rule.ValExpression expression)) told is exact tells e = cc

  by-by_bp : (register : Register) (offset : ℤ) (bp_rule : Option RegisterRule) (told : UnwindRuleX86_64)
      → register.0 ≡ 6 → by_bp offset bp_rule ≡ Some told → Answers told
      → Means (cfa.RegisterAndOffset register offset) bp_rule (Some (rule.Offset (minus 8)))
  by-by_bp register offset None told is tells e = cc
  by-by_bp register offset (Some rule.Undefined) told is tells e = cc
  by-by_bp register offset (Some rule.SameValue) told is tells e = cc
  by-by_bp register offset (Some (rule.Offset saved)) told is tells e =
      elim (cases_Bool (int_eq offset (pos 16) && int_eq saved (minus 16))) [
        | inl usual ↦
            let tests = and_parts (int_eq offset (pos 16)) (int_eq saved (minus 16)) usual in
            let same = same_Some UseFramePointer told (rw usual at tells) in
            let o = int_same offset (pos 16) tests.0 in
            let s = int_same saved (minus 16) tests.1 in
            subst
            (λ p. Means (cfa.RegisterAndOffset register p) (Some (rule.Offset saved)) (Some (rule.Offset (minus 8))))
            (sym o)
            (subst (λ p. Means (cfa.RegisterAndOffset register (pos 16))
            (Some (rule.Offset p)) (Some (rule.Offset (minus 8))))
            (sym s)
            (by-frame_pointer register is (subst Answers (sym same) e)))
        | inr unusual ↦
            let f : with_offsets offset saved ≡ Some told = rw unusual at tells in
            let x = bind_some (units_of 8 offset)
            (λ words. option_map (UseFramePointerWithOffsets words) (signed_units_of 8 (offset +ℤ saved))) told f in
            let y = option_map-some (UseFramePointerWithOffsets x.0) (signed_units_of 8 (offset +ℤ saved)) told x.2 in
            by-offsets register offset saved x.0 y.0 is (units-exact 8 offset x.0 x.1)
            (signed_units-exact 8 (offset +ℤ saved) y.0 y.1) (subst Answers (sym y.2) e)
      ]
  by-by_bp register offset (Some (rule.ValOffset saved)) told is tells e = cc
  by-by_bp register offset (Some (rule.Register other)) told is tells e = cc
  by-by_bp register offset (Some (rule.Expression expression)) told is tells e = cc
  by-by_bp register offset (Some (rule.ValExpression expression)) told is tells e = cc

  by-by_cfa : (cfa_rule : CfaRule) (bp_rule : Option RegisterRule) (told : UnwindRuleX86_64)
      → by_cfa cfa_rule bp_rule ≡ Some told → Answers told → Means cfa_rule bp_rule (Some (rule.Offset (minus 8)))
  by-by_cfa (cfa.Expression expression) bp_rule told tells e = cc
  by-by_cfa (cfa.RegisterAndOffset register offset) bp_rule told tells e =
      elim (cases_Bool (register.0 == RSP)) [
        | inl sp ↦
            let f : by_sp offset bp_rule ≡ Some told = rw sp at tells in
            let x = bind_some (units_of 8 offset) (λ words. with_bp words offset bp_rule) told f in
            by-with_bp register offset x.0 bp_rule told (eqb-true register.0 7 sp) (units-exact 8 offset x.0 x.1) x.2 e
        | inr other ↦
            let f = rw other at tells in
            elim (cases_Bool (register.0 == RBP)) [
              | inl bp ↦ by-by_bp register offset bp_rule told (eqb-true register.0 6 bp) (rw bp at f) e
              | inr none ↦ (let g = rw none at f in cc)
            ]
      ]

  ends : (told : UnwindRuleX86_64) → ◌≡◌ {A = Option UnwindRuleX86_64} (Some EndOfStack) (Some told) → Answers told → ⊥
  ends told same e = let f = subst Answers (sym (same_Some EndOfStack told same)) e in cc

  by-translated : (cfa_rule : CfaRule) (bp_rule return_rule : Option RegisterRule) (told : UnwindRuleX86_64)
      → translated_by cfa_rule bp_rule return_rule ≡ Some told → Answers told → Means cfa_rule bp_rule return_rule
  by-translated cfa_rule bp_rule None told tells e = absurd (ends told tells e)
  by-translated cfa_rule bp_rule (Some rule.Undefined) told tells e = absurd (ends told tells e)
  by-translated cfa_rule bp_rule (Some rule.SameValue) told tells e = cc
  by-translated cfa_rule bp_rule (Some (rule.Offset offset)) told tells e =
      elim (cases_Bool (int_eq offset (minus 8))) [
        | inl usual ↦
            let o = int_same offset (minus 8) usual in
            subst (λ p. Means cfa_rule bp_rule (Some (rule.Offset p))) (sym o)
            (by-by_cfa cfa_rule bp_rule told (rw usual at tells) e)
        | inr unusual ↦ (let f = rw unusual at tells in cc)
      ]
  by-translated cfa_rule bp_rule (Some (rule.ValOffset offset)) told tells e = cc
  by-translated cfa_rule bp_rule (Some (rule.Register other)) told tells e = cc
  by-translated cfa_rule bp_rule (Some (rule.Expression expression)) told tells e = cc
  by-translated cfa_rule bp_rule (Some (rule.ValExpression expression)) told tells e = cc

  pub translated-means : (row : Row) (told : UnwindRuleX86_64) → translated row ≡ Some told
      → outcome told first old memory ≡ answered address new → RowMeans bytes memory row first old address new
  unfolding translated
  translated-means row told tells e =
      let m = by-translated row.cfa (rule_of row.rules bp_column) (rule_of row.rules return_column) told tells e in
      record { cfa = m.cfa; return_address = m.return_address; frame_pointer = m.frame_pointer; ip = m.ip }
