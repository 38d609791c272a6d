-- What a call told is what the definitions say.
use Rattle.std.proofs.Common.{◌≡◌, ◌≢◌, ℕ, Option, Some, None, Result, Ok, Err, sym, ap, ◌∙◌}
use Rattle.framehop_core.specs.declared.unwind_result.UnwindResult.{UnwindResult}
use Rattle.framehop_core.specs.declared.unwind_result.UnwindResult.TheVariants.{ExecRule, Uncacheable}
use Rattle.framehop_cfi.specs.declared.dwarf_error.DwarfUnwinderError.{DwarfUnwinderError}
use Rattle.framehop_core.specs.Step.{TellsFound}
use Rattle.framehop_dwarf.specs.Told.{out_of_memory, IsOfValues, TellsDirect}
use Rattle.std.specs.Prelude.{IfOk, OnOk}
use Rattle.framehop_explain.specs.declared.told.Told.{Told}
use Rattle.framehop_explain.specs.Told.{told_by, of_dwarf, of_pe, pe_reason}
use Rattle.framehop_pe.specs.declared.pe.PeUnwinderError.{PeUnwinderError}
use Rattle.framehop_pe.specs.Answer.{IsMissingStackData, IsComputed}
use Rattle.framehop.specs.declared.modules.UnwinderError.TheVariants.{Dwarf}

-- by what the bytes say, and by the values
pub dwarf-is : {R S : Type 0} (found : Result (Option R) DwarfUnwinderError) (values : Result (ℕ × S) DwarfUnwinderError) (told : Result (UnwindResult R) DwarfUnwinderError) (new : S) → told ≢ Err out_of_memory → TellsFound IsOfValues found told → TellsDirect values told new → of_dwarf told ≡ told_by Dwarf found values
dwarf-is (Err error) values told new some is direct = ap of_dwarf is
dwarf-is (Ok (Some rule)) values told new some is direct = ap of_dwarf is
dwarf-is (Ok None) values (Ok (ExecRule rule)) new some is direct = absurd is
dwarf-is (Ok None) values (Ok (Uncacheable address)) new some is direct = sym (ap (told_by Dwarf (Ok None)) direct)
dwarf-is (Ok None) values (Err error) new some is direct =
    sym (ap (told_by Dwarf (Ok None)) (direct (λ e. some (ap Err e))))

-- the same of a call that says whether memory ran out
pub dwarf-told-is : {R S E : Type 0} (found : Result (Option R) DwarfUnwinderError) (values : Result (ℕ × S) DwarfUnwinderError) (answer : Result (UnwindResult R) DwarfUnwinderError) (new : S) (told : Result (Told R) E) → IfOk told (λ t. t ≡ of_dwarf answer) → OnOk told (answer ≢ Err out_of_memory) → (answer ≢ Err out_of_memory → TellsFound IsOfValues found answer) → TellsDirect values answer new → IfOk told (λ t. t ≡ told_by Dwarf found values)
dwarf-told-is found values answer new (Ok t) is some tells direct = is ∙ dwarf-is found values answer new some (tells some) direct
dwarf-told-is found values answer new (Err error) is some tells direct = tt

-- what PE unwind info told is what the definitions say
pub pe-is : {R S : Type 0} (found : Result (Option R) PeUnwinderError) (values : Result (ℕ × S) PeUnwinderError) (answer : Result (UnwindResult R) PeUnwinderError) (new : S) → TellsFound IsMissingStackData found answer → IsComputed values answer new → of_pe answer ≡ told_by pe_reason found values
pe-is (Err error) values answer new is computed = ap of_pe is
pe-is (Ok (Some rule)) values answer new is computed = ap of_pe is
pe-is (Ok None) values (Ok (ExecRule rule)) new is computed = absurd is
pe-is (Ok None) values (Ok (Uncacheable address)) new is computed = sym (ap (told_by pe_reason (Ok None)) computed)
pe-is (Ok None) values (Err error) new is computed = sym (ap (told_by pe_reason (Ok None)) computed)
