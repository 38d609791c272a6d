-- aarch64: a direct result has the CFA, and the columns' values.
use Rattle.std.proofs.Common.{◌≡◌, ℕ, ◌<◌, Bool, true, false, not, Option, Some, None, Result, Ok, Err, ap, sym, subst, inl, inr, arith, ◌∙◌, List, ◌&&◌, leb}
use Rattle.std.proofs.lemmas.Bool.{cases_Bool}
use Rattle.std.proofs.lemmas.Bool.Decides.{nat_tests}
use Rattle.framehop_core.specs.Memory.{Memory}
use Rattle.framehop_core.specs.Aarch64.Registers.{Registers, strip_ptr_auth}
use Rattle.framehop_cfi.specs.Row.{Row, rule_of}
use Rattle.framehop_cfi.specs.declared.dwarf_error.DwarfUnwinderError.{DwarfUnwinderError}
use Rattle.framehop_dwarf.specs.Direct.{cfa_of, register_of}
use Rattle.framehop_dwarf.specs.Aarch64.{or_kept, stepped, scope_of, direct_of, fp_column, lr_column, ColumnsMean}
use Rattle.framehop_dwarf.specs.Laws.Columns.{cfa-means, column-means}
use Rattle.framehop_dwarf.specs.Laws.DirectX86_64.{needed-ok}

abbrev pair_in : ℕ × Registers → Result (ℕ × Registers) DwarfUnwinderError → ℕ × Registers
pair_in other (Ok pair) = pair
pair_in other (Err error) = other

record Stepped (old : Registers) (cfa fp lr address : ℕ) (new : Registers) : Type 0 where
  address_is : address ≡ strip_ptr_auth old.lr_mask lr
  sp : new.sp ≡ cfa
  fp_is : new.fp ≡ fp
  new_lr : new.lr ≡ address

made : (old : Registers) (cfa fp lr address : ℕ) (new : Registers) → stepped old cfa fp lr ≡ Ok (address, new)
    → Stepped old cfa fp lr address new
made old cfa fp lr address new is =
    let pairs = ap (pair_in (lr, old)) is in
    let found = strip_ptr_auth old.lr_mask lr in
    let registers : record old { lr = found; sp = cfa; fp = fp } ≡ new = ap (λ (p : ℕ × Registers). p.1) pairs in
    let same : found ≡ address = ap (λ (p : ℕ × Registers). p.0) pairs in
    record {
      address_is = sym same;
      sp = sym (ap (λ r. r.sp) registers);
      fp_is = sym (ap (λ r. r.fp) registers);
      new_lr = sym (ap (λ r. r.lr) registers) ∙ same;
    }

kept-or : (first : Bool) (own found value : ℕ) (saved : Option ℕ) → or_kept first own saved ≡ Some found
    → saved ≡ Some value → found ≡ value
kept-or first own found value (Some s) is there = cc
kept-or first own found value None is there = cc

above-it : (first : Bool) (cfa sp : ℕ) → (not first && leb cfa sp) ≡ false → first ≡ false → sp < cfa
above-it true cfa sp test is = cc
above-it false cfa sp test is = grind (arith, nat_tests)

pub direct-means : (bytes : List ℕ) (limit : Option ℕ) (memory : Memory) (row : Row) (first : Bool) (old : Registers)
    (address : ℕ) (new : Registers) → direct_of bytes limit memory row first old ≡ Ok (address, new)
    → ColumnsMean bytes limit memory row first old address new
unfolding direct_of
direct-means bytes limit memory row first old address new is =
    let scope = scope_of bytes limit old in
    let cfa = needed-ok _ (cfa_of scope row.cfa) _ (address, new) is in
    let saved_fp = register_of scope memory cfa.0 old.fp (rule_of row.rules fp_column) in
    let saved_lr = register_of scope memory cfa.0 old.lr (rule_of row.rules lr_column) in
    elim (cases_Bool (not first && leb cfa.0 old.sp)) [
      | inl back ↦ (let e = rw back at cfa.2 in cc)
      | inr up ↦
          let e = rw up at cfa.2 in
          let fp = needed-ok _ (or_kept first old.fp saved_fp) _ (address, new) e in
          let lr = needed-ok _ (or_kept first old.lr saved_lr) _ (address, new) fp.2 in
          let step = made old cfa.0 fp.0 lr.0 address new lr.2 in
          record {
            cfa = rw step.sp (cfa-means scope row.cfa cfa.0 cfa.1);
            link_register =
                rw step.sp
                (λ value there. (
                  step.address_is
                      ∙ ap (strip_ptr_auth old.lr_mask) (kept-or first old.lr lr.0 value saved_lr lr.1 there),
                  column-means scope memory cfa.0 old.lr (rule_of row.rules lr_column) value there,
                ));
            frame_pointer =
                rw step.sp
                (λ value there. (
                  step.fp_is ∙ kept-or first old.fp fp.0 value saved_fp fp.1 there,
                  column-means scope memory cfa.0 old.fp (rule_of row.rules fp_column) value there,
                ));
            new_lr = step.new_lr;
            rises = λ caller. subst (λ n. old.sp < n) (sym step.sp) (above-it first cfa.0 old.sp up caller);
          }
    ]
