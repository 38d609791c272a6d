-- Errors of writes, where two outputs are written.
use Rattle.std.proofs.Common.{◌≡◌, ℕ, Bool, true, false, Option, Result, Ok, Err, IfErr, refl, ap, sym, ◌∙◌, true≢false}
use Rattle.std.specs.Prelude.{◌&&◌, ◌||◌}
use Rattle.std.proofs.Math.Bool.{or-true}
use Rattle.framehop_output.specs.Output.{OutputView}
use Rattle.framehop_recording.specs.declared.error.RecordingError.{RecordingError}
use Rattle.framehop_perf_stacks.specs.Ended.{is_of_write, is_unwritten, MayEnd}
use Rattle.framehop_perf_stacks.specs.Written.{has_one_failed}
use Rattle.framehop_perf_stacks.specs.declared.error.StacksError.{StacksError}
use Rattle.framehop_perf_stacks.specs.declared.error.StacksError.TheVariants.{CannotWrite}
use Rattle.framehop_perf_stacks.proofs.EndedLemmas.{cannot_write}

-- a write to the first output that failed, if it was made, is one to either
pub either-failed : (shows failed other : Bool) → (shows && failed) ≡ true → (failed || other) ≡ true
either-failed true true other is = refl
either-failed true false other is = absurd (true≢false (sym is))
either-failed false failed other is = absurd (true≢false (sym is))

-- an output notes an error of a write
noted-true : (before after unwritten : Bool) → after ≡ (before || unwritten) → unwritten ≡ true → after ≡ true
noted-true before after unwritten noted is = noted ∙ ap (λ b. before || b) is ∙ or-true before

-- what ends a step that writes to the second output only
pub second-ends : {T : Type 0} (written : Result T StacksError) (refusal : Option RecordingError) (drawn samples : ℕ) (out err err' : OutputView)
    → IfErr written (λ error. error ≡ CannotWrite) → err'.has_failed ≡ (err.has_failed || is_unwritten written)
    → IfErr written (MayEnd (has_one_failed out err') refusal drawn samples)
second-ends (Ok value) refusal drawn samples out err err' is noted = tt
second-ends (Err error) refusal drawn samples out err err' is noted =
    cannot_write (has_one_failed out err') refusal drawn samples error is
    (ap (λ b. out.has_failed || b) (noted-true err.has_failed err'.has_failed (is_of_write error) noted (ap is_of_write is)) ∙ or-true out.has_failed)
