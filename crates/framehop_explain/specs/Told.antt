-- What the unwind data of a module tells for a frame, against what the data gives.
use Rattle.std.specs.Prelude.{ℕ, ◌+◌, Option, Some, None, Result, Ok, Err}
use Rattle.framehop_core.specs.declared.unwind_result.UnwindResult.{UnwindResult}
use Rattle.framehop_core.specs.declared.unwind_result.UnwindResult.TheVariants.{ExecRule, Uncacheable}
use Rattle.framehop_cfi.specs.Row.{Row}
use Rattle.framehop_cfi.specs.declared.storage.StorageLimits.{StorageLimits}
use Rattle.framehop_cfi.specs.declared.dwarf_error.DwarfUnwinderError.{DwarfUnwinderError}
use Rattle.framehop_dwarf.specs.Unwinder.{Reading, found_by, direct_by, reading_of}
use Rattle.framehop_pe.specs.declared.pe.PeUnwinderError.{PeUnwinderError}
use Rattle.framehop.specs.declared.lookup.SectionFde.{SectionFde}
use Rattle.framehop.specs.declared.modules.UnwinderError.{UnwinderError}
use Rattle.framehop.specs.declared.modules.UnwinderError.TheVariants as reason
use Rattle.framehop_explain.specs.declared.told.Told.{Told}
use Rattle.framehop_explain.specs.declared.told.Told.TheVariants.{Rule, Computed, Refused}

-- what a call returned
abbrev pub of_dwarf : {R : Type 0} → Result (UnwindResult R) DwarfUnwinderError → Told R
of_dwarf (Ok (ExecRule rule)) = Rule rule
of_dwarf (Ok (Uncacheable address)) = Computed address
of_dwarf (Err error) = Refused (reason.Dwarf error)

abbrev pub of_pe : {R : Type 0} → Result (UnwindResult R) PeUnwinderError → Told R
of_pe (Ok (ExecRule rule)) = Rule rule
of_pe (Ok (Uncacheable address)) = Computed address
of_pe (Err error) = Refused (reason.Pe error)

-- What is found in the bytes is told, or else what is computed: a refusal of either is the reason of the fallback.
abbrev pub told_of_values : {R S E : Type 0} → (E → UnwinderError) → Result (ℕ × S) E → Told R
told_of_values refuse (Ok values) = Computed values.0
told_of_values refuse (Err error) = Refused (refuse error)

-- the same by a refusal, a rule or values
abbrev pub told_by : {R S E : Type 0} → (E → UnwinderError) → Result (Option R) E → Result (ℕ × S) E → Told R
told_by refuse (Err error) values = Refused (refuse error)
told_by refuse (Ok (Some rule)) values = Rule rule
told_by refuse (Ok None) values = told_of_values refuse values

-- by what is read by an FDE
abbrev pub dwarf_told : {R S : Type 0} → (Row → Option R) → R → (Row → Result (ℕ × S) DwarfUnwinderError) → Reading → Told R
dwarf_told translated uncovered direct reading =
    told_by reason.Dwarf (found_by translated uncovered reading) (direct_by direct reading)

-- by an FDE, for a relative address
abbrev pub fde_told : {R S : Type 0} → (Row → Option R) → R → (Row → Result (ℕ × S) DwarfUnwinderError)
    → Option StorageLimits → ℕ → SectionFde → Told R
fde_told translated uncovered direct limits relative fde =
    dwarf_told translated uncovered direct (reading_of limits fde.section (fde.base_svma + relative) fde.offset)

-- PE unwind info's reason of the fallback
abbrev pub pe_reason : PeUnwinderError → UnwinderError
pe_reason error = reason.Pe error
