-- What PE unwind info has for a frame.
use Rattle.std.proofs.Common.{◌≡◌, ℕ, Option, Some, None, Result, Ok, Err, sym, ap}
use Rattle.std.specs.Prelude.{is_ok}
use Rattle.framehop_core.specs.declared.unwind_result.UnwindResult.{UnwindResult}
use Rattle.framehop_core.specs.declared.unwind_result.UnwindResult.TheVariants.{ExecRule, Uncacheable}
use Rattle.framehop_core.specs.Step.{TellsFound}
use Rattle.framehop_pe.specs.declared.pe.PeUnwinderError.{PeUnwinderError}
use Rattle.framehop_pe.specs.Answer.{IsMissingStackData, IsComputed}
use Rattle.framehop_backtrace.specs.Info.{is_by_pe}

pub is_by_pe-is : {R S : Type 0} (found : Result (Option R) PeUnwinderError) (values : Result (ℕ × S) PeUnwinderError)
    (answer : Result (UnwindResult R) PeUnwinderError) (new : S) → TellsFound IsMissingStackData found answer
    → IsComputed values answer new → is_ok answer ≡ is_by_pe found values
is_by_pe-is (Err error) values answer new is computed = ap is_ok is
is_by_pe-is (Ok (Some rule)) values answer new is computed = ap is_ok is
is_by_pe-is (Ok None) values (Ok (ExecRule rule)) new is computed = absurd is
is_by_pe-is (Ok None) values (Ok (Uncacheable address)) new is computed = sym (ap is_ok computed)
is_by_pe-is (Ok None) values (Err error) new is computed = sym (ap is_ok computed)
