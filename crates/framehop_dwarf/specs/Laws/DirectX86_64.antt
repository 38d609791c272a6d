-- x86_64: a direct result has the CFA, and the columns' values.
use Rattle.std.proofs.Common.{◌≡◌, ℕ, Bool, not, Option, Some, None, Result, Ok, Err, ap, sym, refl, inl, inr, ◌∙◌, List, ◌&&◌, ◌==◌, ltb}
use Rattle.std.specs.Prelude.{unwrap_or}
use Rattle.std.proofs.lemmas.Bool.{cases_Bool}
use Rattle.framehop_core.specs.Memory.{Memory}
use Rattle.framehop_core.specs.X86_64.Registers.{Registers}
use Rattle.framehop_cfi.specs.Row.{Row, rule_of}
use Rattle.framehop_cfi.specs.declared.dwarf_error.DwarfUnwinderError.{DwarfUnwinderError}
use Rattle.framehop_dwarf.specs.Direct.{cfa_of, register_of, needed}
use Rattle.framehop_dwarf.specs.X86_64.{or_below, below, stepped, scope_of, direct_of, bp_column, return_column, ColumnsMean}
use Rattle.framehop_dwarf.specs.Laws.Columns.{cfa-means, column-means}

pub needed-ok : {A B E : Type 0} (error : E) (o : Option A) (next : A → Result B E) (y : B) → needed error o next ≡ Ok y
    → (x : A) × (o ≡ Some x) × (next x ≡ Ok y)
needed-ok error (Some x) next y is = (x, refl, is)
needed-ok error None next y is = cc

-- the registers that a step leaves
record Stepped (old : Registers) (cfa bp found address : ℕ) (new : Registers) : Type 0 where
  address_is : address ≡ found
  sp : new.rsp ≡ cfa
  bp_is : new.rbp ≡ bp
  ip : new.ip ≡ found

abbrev pair_in : ℕ × Registers → Result (ℕ × Registers) DwarfUnwinderError → ℕ × Registers
pair_in other (Ok pair) = pair
pair_in other (Err error) = other

made : (old : Registers) (cfa bp found address : ℕ) (new : Registers)
    → ◌≡◌ {A = Result (ℕ × Registers) DwarfUnwinderError} (Ok (found, record old { ip = found; rsp = cfa; rbp = bp }))
    (Ok (address, new)) → Stepped old cfa bp found address new
made old cfa bp found address new is =
    let pairs = ap (pair_in (found, old)) is in
    let registers : record old { ip = found; rsp = cfa; rbp = bp } ≡ new = ap (λ (p : ℕ × Registers). p.1) pairs in
    record {
      address_is = sym (ap (λ (p : ℕ × Registers). p.0) pairs);
      sp = sym (ap (λ r. r.rsp) registers);
      bp_is = sym (ap (λ r. r.rbp) registers);
      ip = sym (ap (λ r. r.ip) registers);
    }

stepped-ok : (first : Bool) (old : Registers) (cfa bp found address : ℕ) (new : Registers)
    → stepped first old cfa bp found ≡ Ok (address, new) → Stepped old cfa bp found address new
stepped-ok first old cfa bp found address new is =
    elim (cases_Bool ((cfa == old.rsp) && (found == old.ip))) [
      | inl still ↦ (let e = rw still at is in cc)
      | inr moved ↦
          let e = rw moved at is in
          elim (cases_Bool (not first && ltb cfa old.rsp)) [
            | inl back ↦ (let f = rw back at e in cc)
            | inr up ↦ made old cfa bp found address new (rw up at e)
          ]
    ]

or-below : (saved word : Option ℕ) (found value : ℕ) → or_below saved word ≡ Some found → saved ≡ Some value
    → found ≡ value
or-below (Some s) word found value is there = cc
or-below None word found value is there = cc

or-kept : (saved : Option ℕ) (own value : ℕ) → saved ≡ Some value → unwrap_or saved own ≡ value
or-kept (Some s) own value is = cc
or-kept None own value is = cc

pub direct-means : (bytes : List ℕ) (limit : Option ℕ) (memory : Memory) (row : Row) (first : Bool) (old : Registers)
    (address : ℕ) (new : Registers) → direct_of bytes limit memory row first old ≡ Ok (address, new)
    → ColumnsMean bytes limit memory row first old address new
unfolding direct_of
direct-means bytes limit memory row first old address new is =
    let scope = scope_of bytes limit old in
    let cfa = needed-ok _ (cfa_of scope row.cfa) _ (address, new) is in
    let saved = register_of scope memory cfa.0 old.ip (rule_of row.rules return_column) in
    let bp = register_of scope memory cfa.0 old.rbp (rule_of row.rules bp_column) in
    let found = needed-ok _ (or_below saved (below memory cfa.0)) _ (address, new) cfa.2 in
    let step = stepped-ok first old cfa.0 (unwrap_or bp old.rbp) found.0 address new found.2 in
    record {
      cfa = rw step.sp (cfa-means scope row.cfa cfa.0 cfa.1);
      return_address =
          rw step.sp
          (λ value there. (
            step.address_is ∙ or-below saved (below memory cfa.0) found.0 value found.1 there,
            column-means scope memory cfa.0 old.ip (rule_of row.rules return_column) value there,
          ));
      frame_pointer =
          rw step.sp
          (λ value there. (
            step.bp_is ∙ or-kept bp old.rbp value there,
            column-means scope memory cfa.0 old.rbp (rule_of row.rules bp_column) value there,
          ));
      ip = step.ip ∙ sym step.address_is;
    }
