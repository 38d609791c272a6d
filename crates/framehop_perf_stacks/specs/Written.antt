-- Which errors say that a write failed, where two outputs are written.
use Rattle.std.specs.Prelude.{◌≡◌, ◌||◌, Bool, true, false, Result, Ok, Err}
use Rattle.framehop_output.specs.Output.{OutputView}
use Rattle.framehop_perf_stacks.specs.Ended.{is_of_write, is_unwritten}
use Rattle.framehop_perf_stacks.specs.declared.error.StacksError.{StacksError}
use Rattle.framehop_perf_stacks.specs.declared.program.Unwound.{Unwound}

-- a run over a recording ends with such an error, before its samples or among them
abbrev pub ends_unwritten : Result Unwound StacksError → Bool
ends_unwritten (Ok unwound) = is_unwritten unwound.ended
ends_unwritten (Err error) = is_of_write error

-- a write to one of two outputs has failed
abbrev pub has_one_failed : OutputView → OutputView → Bool
has_one_failed out err = out.has_failed || err.has_failed

-- What two outputs note of a call: where it ends with the error of a write, one to either has failed; else none has failed
-- meanwhile.
pub record AreNoted (unwritten : Bool) (out out' err err' : OutputView) : Type 0 where
  pub failed : unwritten ≡ true → has_one_failed out' err' ≡ true
  pub none : unwritten ≡ false → (out'.has_failed ≡ out.has_failed) × (err'.has_failed ≡ err.has_failed)
