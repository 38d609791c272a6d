-- Values that a module's unwind data gives are those of a row.
use Rattle.std.proofs.Common.{◌≡◌, ◌≢◌, ℕ, ◌+◌, Bool, List, Option, Some, None, Result, Ok, Err, refl, ap, ◌∙◌}
use Rattle.framehop_core.specs.Memory.{Memory}
use Rattle.framehop_cfi.specs.Row.{Row}
use Rattle.framehop_dwarf.specs.Unwinder.{Reading, unread, uncovered, by_row, reading_of, direct_by, found_by}
use Rattle.framehop_pe.specs.Sections.{Sections}
use Rattle.framehop_pe.specs.declared.pe.PeUnwinderError.{PeUnwinderError}
use Rattle.framehop.specs.Policy.{Policy}
use Rattle.framehop.specs.Answer.{Fresh, by_rule, direct, values_of, fresh_of}
use Rattle.framehop.specs.CallFrames.{RowReader, fde_answer}
use Rattle.framehop.specs.Lookup.{EntryAt, fde_entry, rule_entry, pe_entry, entry_at}
use Rattle.framehop.specs.Modules.{ModuleView}
use Rattle.framehop.specs.Unwinding.{Readers, entry_answer, answer_by}
use Rattle.framehop.specs.declared.lookup.SectionFde.{SectionFde}
use Rattle.framehop.specs.declared.modules.UnwinderError.{UnwinderError}

-- the values are those of a row
pub record AreOfRow {Rule Regs : Type 0} (reader : RowReader Rule Regs) (policy : Policy) (first : Bool) (old : Regs)
    (memory : Memory) (values : ℕ × Regs) : Type 0 where
  pub bytes : List ℕ
  pub row : Row
  pub direct_is : reader.direct bytes policy.values memory row first old ≡ Ok values

ok-values : {A E : Type 0} (result : Result A E) (values : A) → values_of result ≡ Some values → result ≡ Ok values
ok-values (Ok x) values e = cc
ok-values (Err error) values e = cc

module _ {Rule Regs : Type 0} where
  compute-in : Option (Fresh Rule Regs) → Regs → Memory → Option (ℕ × Regs)
  compute-in None old memory = None
  compute-in (Some (by_rule rule)) old memory = None
  compute-in (Some (direct compute)) old memory = compute old memory

  of-found : {E : Type 0} (found : Result (Option Rule) E) (compute' : Regs → Memory → Result (ℕ × Regs) E)
      (compute : Regs → Memory → Option (ℕ × Regs)) (old : Regs) (memory : Memory) (values : ℕ × Regs)
      → fresh_of found compute' ≡ Some (direct compute) → compute old memory ≡ Some values
      → compute' old memory ≡ Ok values
  unfolding compute-in
  of-found (Err error) compute' compute old memory values e is = cc
  of-found (Ok (Some rule)) compute' compute old memory values e is = cc
  of-found (Ok None) compute' compute old memory values e is =
      ok-values (compute' old memory) values (ap (λ answer. compute-in answer old memory) e ∙ is)

  module _ (reader : RowReader Rule Regs) (policy : Policy) (first : Bool) (old : Regs) (memory : Memory)
      (values : ℕ × Regs) where
    of-reading : (bytes : List ℕ) (reading : Reading)
        → direct_by (λ row. reader.direct bytes policy.values memory row first old) reading ≡ Ok values
        → AreOfRow reader policy first old memory values
    of-reading bytes (unread error) e = cc
    of-reading bytes uncovered e = cc
    of-reading bytes (by_row row) e = record { bytes = bytes; row = row; direct_is = e }

    of-fde : (fde : SectionFde) (relative : ℕ) (compute : Regs → Memory → Option (ℕ × Regs))
        → fde_answer reader policy fde.section (fde.base_svma + relative) first fde.offset ≡ Some (direct compute)
        → compute old memory ≡ Some values → AreOfRow reader policy first old memory values
    unfolding fde_answer
    of-fde fde relative compute e is =
        let reading = reading_of policy.rows fde.section (fde.base_svma + relative) fde.offset in
        of-reading fde.section.bytes reading
        (of-found (found_by reader.translated reader.uncovered reading) _ compute old memory values e is)

  pe-none : (found : Result (Option Rule) PeUnwinderError)
      (compute' : Regs → Memory → Result (ℕ × Regs) PeUnwinderError) (compute : Regs → Memory → Option (ℕ × Regs))
      → found ≢ Ok None → fresh_of found compute' ≡ Some (direct compute) → ⊥
  pe-none (Err error) compute' compute none e = cc
  pe-none (Ok (Some rule)) compute' compute none e = cc
  pe-none (Ok None) compute' compute none e = none refl

  of-entry : (readers : Readers Rule Regs)
      → ((sections : Sections) (relative : ℕ) (first : Bool) → readers.pe_found sections relative first ≢ Ok None)
      → (policy : Policy) (entry : Result (EntryAt Rule) UnwinderError) (relative : ℕ) (first : Bool)
      (compute : Regs → Memory → Option (ℕ × Regs))
      → entry_answer readers policy relative first entry ≡ Some (direct compute)
      → (old : Regs) (memory : Memory) (values : ℕ × Regs) → compute old memory ≡ Some values
      → AreOfRow readers.rows policy first old memory values
  of-entry readers none policy (Ok (fde_entry fde)) relative first compute e old memory values is =
      of-fde readers.rows policy first old memory values fde relative compute e is
  of-entry readers none policy (Ok (rule_entry rule)) relative first compute e old memory values is = cc
  of-entry readers none policy (Ok (pe_entry sections)) relative first compute e old memory values is =
      absurd (pe-none (readers.pe_found sections relative first) _ compute (none sections relative first) e)
  of-entry readers none policy (Err error) relative first compute e old memory values is = cc

  -- where PE unwind info gives no values
  pub values-read : (readers : Readers Rule Regs)
      → ((sections : Sections) (relative : ℕ) (first : Bool) → readers.pe_found sections relative first ≢ Ok None)
      → (policy : Policy) (m : ModuleView) (relative : ℕ) (first : Bool) (compute : Regs → Memory → Option (ℕ × Regs))
      → answer_by readers policy m relative first ≡ Some (direct compute)
      → (old : Regs) (memory : Memory) (values : ℕ × Regs) → compute old memory ≡ Some values
      → AreOfRow readers.rows policy first old memory values
  unfolding answer_by
  values-read readers none policy m relative first compute e old memory values is =
      of-entry readers none policy (entry_at readers.compact m.unwind_data relative first) relative first compute e old
      memory values is
