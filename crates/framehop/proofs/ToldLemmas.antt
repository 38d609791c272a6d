-- What a row's unwinding tells is what the call frame section gives.
use Rattle.std.proofs.Common.{◌≡◌, ◌≢◌, ℕ, Bool, true, false, List, Option, Some, None, Result, Ok, Err, IfErr, refl, sym, ap, subst}
use Rattle.std.specs.Prelude.{MatchBool}
use Rattle.framehop_core.specs.Memory.{Memory}
use Rattle.framehop_core.specs.declared.unwind_result.UnwindResult.{UnwindResult}
use Rattle.framehop_core.specs.declared.unwind_result.UnwindResult.TheVariants.{ExecRule, Uncacheable}
use Rattle.framehop_core.specs.Step.{TellsFound, WritesWithAddress, KeptWithoutAddress}
use Rattle.framehop_dwarf.specs.Told.{out_of_memory, IsOfValues, TellsDirect}
use Rattle.framehop_cfi.specs.Section.{Section}
use Rattle.framehop_cfi.specs.declared.storage.StorageLimits.{StorageLimits}
use Rattle.framehop_dwarf.specs.Unwinder.{Reading, unread, uncovered, by_row, reading_of, found_by, direct_by}
use Rattle.framehop_cfi.specs.declared.dwarf_error.DwarfUnwinderError.{DwarfUnwinderError}
use Rattle.framehop_cfi.specs.declared.dwarf_error.DwarfUnwinderError.TheVariants.{FdeFromOffsetFailed, UnwindInfoForAddressFailed, StackPointerMovedBackwards, DidNotAdvance, CouldNotRecoverCfa, CouldNotRecoverReturnAddress, CouldNotRecoverFramePointer}
use Rattle.framehop.specs.Policy.{Policy}
use Rattle.framehop.specs.Answer.{Fresh, by_rule, values_of, fresh_of}
use Rattle.framehop.specs.CallFrames.{RowReader, answer_of_reading, fde_answer}
use Rattle.framehop.specs.Unwinding.{Readers}
use Rattle.framehop_pe.specs.Answer.{IsMissingStackData, IsComputed}
use Rattle.framehop_pe.specs.declared.pe.PeUnwinderError.{PeUnwinderError}
use Rattle.framehop_pe.specs.declared.pe.PeUnwinderError.TheVariants.{MissingUnwindInfoData, MissingInstructionData, MissingStackData, UnwindInfoParseError, Aarch64Unsupported}
use Rattle.framehop.specs.Told.{is_of_row_values, is_of_pe_values, TellsAnswer, TellsValues}
use Rattle.framehop.specs.declared.modules.UnwinderError.{UnwinderError}
use Rattle.framehop.specs.declared.modules.UnwinderError.TheVariants.{Dwarf, Pe}

-- an error in a result, or another one
error-in : {A E : Type 0} → E → Result A E → E
error-in other (Ok x) = other
error-in other (Err error) = error

pub err-same : {A E : Type 0} (a b : E) → ◌≡◌ {A = Result A E} (Err a) (Err b) → a ≡ b
err-same a b e = cc

-- equal readers are equal for rows
pub rows-are : {Rule Regs : Type 0} (readers readers' : Readers Rule Regs) → readers ≡ readers' → readers.rows ≡ readers'.rows
rows-are readers readers' same = ap (λ w. w.rows) same

-- the refusals of values, but for out of memory
values-refused : (error : DwarfUnwinderError) → error ≢ out_of_memory → IsOfValues error → is_of_row_values error ≡ true
values-refused (FdeFromOffsetFailed e) some of = absurd of
values-refused (UnwindInfoForAddressFailed e) some of = absurd (some (ap UnwindInfoForAddressFailed of))
values-refused StackPointerMovedBackwards some of = refl
values-refused DidNotAdvance some of = refl
values-refused CouldNotRecoverCfa some of = refl
values-refused CouldNotRecoverReturnAddress some of = refl
values-refused CouldNotRecoverFramePointer some of = refl

where-true : {P : Type 0} (Q : Type 0) (b : Bool) → b ≡ true → P → MatchBool b P Q
where-true Q true e p = p
where-true Q false e p = cc

either-way : {P : Type 0} (b : Bool) → P → MatchBool b P (Unit {0})
either-way true p = p
either-way false p = tt

module _ {Rule Regs : Type 0} (reader : RowReader Rule Regs) (policy : Policy) (bytes : List ℕ) (first : Bool) where
  abbrev Gives : Reading → Option (Fresh Rule Regs)
  Gives reading = answer_of_reading reader policy bytes first reading

  abbrev Finds : Reading → Result (UnwindResult Rule) DwarfUnwinderError → Type 0
  Finds reading result = TellsFound IsOfValues (found_by reader.translated reader.uncovered reading) result

  row-err-told : (translated : Option Rule) (compute : Regs → Memory → Result (ℕ × Regs) DwarfUnwinderError) (error : DwarfUnwinderError) → error ≢ out_of_memory → TellsFound IsOfValues (Ok translated) (Err error) → TellsAnswer (fresh_of (Ok translated) compute) (Err (Dwarf error))
  row-err-told (Some rule) compute error some told = cc
  row-err-told None compute error some told = where-true _ (is_of_row_values error) (values-refused error some told) tt

  pub err-told : (reading : Reading) (error : DwarfUnwinderError) → error ≢ out_of_memory → Finds reading (Err error) → TellsAnswer (Gives reading) (Err (Dwarf error))
  unfolding error-in
  err-told (unread e) error some told =
      let same : error ≡ FdeFromOffsetFailed e = ap (error-in error) told in
      subst (λ (x : DwarfUnwinderError). TellsAnswer (Gives (unread e)) (Err (Dwarf x))) (sym same) refl
  err-told uncovered error some told = cc
  err-told (by_row row) error some told = row-err-told (reader.translated row) _ error some told

  row-ok-told : (translated : Option Rule) (compute : Regs → Memory → Result (ℕ × Regs) DwarfUnwinderError) (found : UnwindResult Rule) → TellsFound IsOfValues (Ok translated) (Ok found) → TellsAnswer (fresh_of (Ok translated) compute) (Ok found)
  row-ok-told (Some rule) compute (ExecRule other) told = let same : other ≡ rule = cc in ap (λ r. Some (by_rule r)) (sym same)
  row-ok-told (Some rule) compute (Uncacheable address) told = cc
  row-ok-told None compute (ExecRule rule) told = absurd told
  row-ok-told None compute (Uncacheable address) told = tt

  pub ok-told : (reading : Reading) (found : UnwindResult Rule) → Finds reading (Ok found) → TellsAnswer (Gives reading) (Ok found)
  ok-told (unread e) found told = cc
  ok-told uncovered (ExecRule other) told = let same : other ≡ reader.uncovered = cc in ap (λ r. Some (by_rule r)) (sym same)
  ok-told uncovered (Uncacheable address) told = cc
  ok-told (by_row row) found told = row-ok-told (reader.translated row) _ found told

  module _ (memory : Memory) (old new : Regs) where
    abbrev Computes : Reading → Result (ℕ × Regs) DwarfUnwinderError
    Computes reading = direct_by (λ row. reader.direct bytes policy.values memory row first old) reading

    row-err-values : (translated : Option Rule) (compute : Regs → Memory → Result (ℕ × Regs) DwarfUnwinderError) (error : DwarfUnwinderError) → TellsFound IsOfValues (Ok translated) (Err error) → compute old memory ≡ Err error → TellsValues (fresh_of (Ok translated) compute) old memory (Err (Dwarf error)) new
    row-err-values (Some rule) compute error told is = cc
    row-err-values None compute error told is = either-way (is_of_row_values error) (ap values_of is)

    pub err-values : (reading : Reading) (error : DwarfUnwinderError) → error ≢ out_of_memory → Finds reading (Err error) → TellsDirect {R = Rule} (Computes reading) (Err error) new → TellsValues (Gives reading) old memory (Err (Dwarf error)) new
    err-values (unread e) error some told is = either-way (is_of_row_values error) refl
    err-values uncovered error some told is = cc
    err-values (by_row row) error some told is = row-err-values (reader.translated row) _ error told (is some)

    row-ok-values : (translated : Option Rule) (compute : Regs → Memory → Result (ℕ × Regs) DwarfUnwinderError) (address : ℕ) → TellsFound IsOfValues (Ok translated) (Ok (Uncacheable address)) → compute old memory ≡ Ok (address, new) → TellsValues (fresh_of (Ok translated) compute) old memory (Ok (Uncacheable address)) new
    row-ok-values (Some rule) compute address told is = cc
    row-ok-values None compute address told is = ap values_of is

    pub ok-values : (reading : Reading) (found : UnwindResult Rule) → Finds reading (Ok found) → TellsDirect {R = Rule} (Computes reading) (Ok found) new → TellsValues (Gives reading) old memory (Ok found) new
    ok-values reading (ExecRule rule) told is = tt
    ok-values (unread e) (Uncacheable address) told is = cc
    ok-values uncovered (Uncacheable address) told is = cc
    ok-values (by_row row) (Uncacheable address) told is = row-ok-values (reader.translated row) _ address told is

-- ---- PE unwind info

pe-values-refused : (error : PeUnwinderError) → IsMissingStackData error → is_of_pe_values error ≡ true
pe-values-refused (MissingStackData address) missing = refl
pe-values-refused (MissingUnwindInfoData rva) missing = absurd missing
pe-values-refused (MissingInstructionData rva) missing = absurd missing
pe-values-refused UnwindInfoParseError missing = absurd missing
pe-values-refused Aarch64Unsupported missing = absurd missing

pe-bytes-refused : (error : PeUnwinderError) → (IsMissingStackData error → ⊥) → is_of_pe_values error ≡ false
pe-bytes-refused (MissingStackData address) bytes = absurd (bytes tt)
pe-bytes-refused (MissingUnwindInfoData rva) bytes = refl
pe-bytes-refused (MissingInstructionData rva) bytes = refl
pe-bytes-refused UnwindInfoParseError bytes = refl
pe-bytes-refused Aarch64Unsupported bytes = refl

where-false : {Q : Type 0} (P : Type 0) (b : Bool) → b ≡ false → Q → MatchBool b P Q
where-false P false e q = q
where-false P true e q = cc

abbrev pub as_pe : {Rule : Type 0} → Result (UnwindResult Rule) PeUnwinderError → Result (UnwindResult Rule) UnwinderError
as_pe (Ok found) = Ok found
as_pe (Err error) = Err (Pe error)

module _ {Rule Regs : Type 0} where
  pub pe-told : (found : Result (Option Rule) PeUnwinderError) (compute : Regs → Memory → Result (ℕ × Regs) PeUnwinderError) (result : Result (UnwindResult Rule) PeUnwinderError) → IfErr found (λ error. IsMissingStackData error → ⊥) → TellsFound IsMissingStackData found result → TellsAnswer (fresh_of found compute) (as_pe result)
  pe-told (Err error) compute (Ok found) bytes told = cc
  pe-told (Err error) compute (Err other) bytes told =
      let same : other ≡ error = err-same other error told in
      where-false _ (is_of_pe_values other) (rw same (pe-bytes-refused error bytes)) refl
  pe-told (Ok (Some rule)) compute (Ok (ExecRule other)) bytes told = let same : other ≡ rule = cc in ap (λ r. Some (by_rule r)) (sym same)
  pe-told (Ok (Some rule)) compute (Ok (Uncacheable address)) bytes told = cc
  pe-told (Ok (Some rule)) compute (Err error) bytes told = cc
  pe-told (Ok None) compute (Ok (ExecRule rule)) bytes told = absurd told
  pe-told (Ok None) compute (Ok (Uncacheable address)) bytes told = tt
  pe-told (Ok None) compute (Err error) bytes told = where-true _ (is_of_pe_values error) (pe-values-refused error told) tt

  pub pe-values : (found : Result (Option Rule) PeUnwinderError) (compute : Regs → Memory → Result (ℕ × Regs) PeUnwinderError) (result : Result (UnwindResult Rule) PeUnwinderError) (old new : Regs) (memory : Memory) → IfErr found (λ error. IsMissingStackData error → ⊥) → TellsFound IsMissingStackData found result → IsComputed (compute old memory) result new → TellsValues (fresh_of found compute) old memory (as_pe result) new
  pe-values found compute (Ok (ExecRule rule)) old new memory bytes told is = tt
  pe-values (Err error) compute (Ok (Uncacheable address)) old new memory bytes told is = cc
  pe-values (Ok (Some rule)) compute (Ok (Uncacheable address)) old new memory bytes told is = cc
  pe-values (Ok None) compute (Ok (Uncacheable address)) old new memory bytes told is = ap values_of is
  pe-values (Err error) compute (Err other) old new memory bytes told is = either-way (is_of_pe_values other) refl
  pe-values (Ok (Some rule)) compute (Err error) old new memory bytes told is = cc
  pe-values (Ok None) compute (Err error) old new memory bytes told is = either-way (is_of_pe_values error) (ap values_of is)

  -- registers are written only with values that are computed
  pub pe-written : (Advances : Regs → Regs → Type 0) (found : Result (Option Rule) PeUnwinderError) (result : Result (UnwindResult Rule) PeUnwinderError) (old new : Regs) → TellsFound IsMissingStackData found result → KeptWithoutAddress result old new → (found ≡ Ok None → Advances old new) → WritesWithAddress Advances (as_pe result) old new
  pe-written Advances found (Ok (ExecRule rule)) old new told kept advance = kept
  pe-written Advances (Err error) (Ok (Uncacheable address)) old new told kept advance = cc
  pe-written Advances (Ok (Some rule)) (Ok (Uncacheable address)) old new told kept advance = cc
  pe-written Advances (Ok None) (Ok (Uncacheable address)) old new told kept advance = advance refl
  pe-written Advances found (Err error) old new told kept advance = kept

-- ---- call frame sections

-- the same of the FDE at an offset, by the limits of a policy
module _ {Rule Regs : Type 0} (reader : RowReader Rule Regs) (policy : Policy) (section : Section) (address : ℕ) (first : Bool) (offset : ℕ) (rows : Option StorageLimits) (values : Option ℕ) (same_rows : policy.rows ≡ rows) (same_values : policy.values ≡ values) where
  abbrev Found : Result (UnwindResult Rule) DwarfUnwinderError → Type 0
  Found result = TellsFound IsOfValues (found_by reader.translated reader.uncovered (reading_of rows section address offset)) result

  same-found : (result : Result (UnwindResult Rule) DwarfUnwinderError) → Found result → TellsFound IsOfValues (found_by reader.translated reader.uncovered (reading_of policy.rows section address offset)) result
  same-found result told =
      subst (λ (limits : Option StorageLimits). TellsFound IsOfValues (found_by reader.translated reader.uncovered (reading_of limits section address offset)) result) (sym same_rows) told

  pub fde-err-told : (error : DwarfUnwinderError) → error ≢ out_of_memory → Found (Err error) → TellsAnswer (fde_answer reader policy section address first offset) (Err (Dwarf error))
  unfolding fde_answer
  fde-err-told error some told = err-told reader policy section.bytes first _ error some (same-found (Err error) told)

  pub fde-ok-told : (found : UnwindResult Rule) → Found (Ok found) → TellsAnswer (fde_answer reader policy section address first offset) (Ok found)
  unfolding fde_answer
  fde-ok-told found told = ok-told reader policy section.bytes first _ found (same-found (Ok found) told)

  module _ (memory : Memory) (old new : Regs) where
    abbrev Direct : Option StorageLimits → Option ℕ → Result (ℕ × Regs) DwarfUnwinderError
    Direct limits most = direct_by (λ row. reader.direct section.bytes most memory row first old) (reading_of limits section address offset)

    same-direct : (result : Result (UnwindResult Rule) DwarfUnwinderError) → TellsDirect {R = Rule} (Direct rows values) result new → TellsDirect {R = Rule} (Direct policy.rows policy.values) result new
    same-direct result told =
        subst (λ (limits : Option StorageLimits). TellsDirect {R = Rule} (Direct limits policy.values) result new) (sym same_rows)
        (subst (λ (most : Option ℕ). TellsDirect {R = Rule} (Direct rows most) result new) (sym same_values) told)

    pub fde-err-values : (error : DwarfUnwinderError) → error ≢ out_of_memory → Found (Err error) → TellsDirect {R = Rule} (Direct rows values) (Err error) new → TellsValues (fde_answer reader policy section address first offset) old memory (Err (Dwarf error)) new
    unfolding fde_answer
    fde-err-values error some told is =
        err-values reader policy section.bytes first memory old new _ error some (same-found (Err error) told) (same-direct (Err error) is)

    pub fde-ok-values : (found : UnwindResult Rule) → Found (Ok found) → TellsDirect {R = Rule} (Direct rows values) (Ok found) new → TellsValues (fde_answer reader policy section address first offset) old memory (Ok found) new
    unfolding fde_answer
    fde-ok-values found told is =
        ok-values reader policy section.bytes first memory old new _ found (same-found (Ok found) told) (same-direct (Ok found) is)
