-- How a run of the program ends: by its status, its output and its error line.
use Rattle.std.specs.Prelude.{◌≡◌, ◌≢◌, ◌⊎◌, ℕ, true, false, List, [], ◌∷◌, ◌++◌, codes, Option, Some, None, IfSome}
use Rattle.std.specs.Io.KnownBytes.{Keeps, Appends}
use Rattle.framehop_walk.specs.Answers.{IsOfRun}
use Rattle.framehop_walk.specs.Refusals.{refusal_text, refusal_status}
use Rattle.framehop_walk.specs.Streams.{InputView, Outputs}
use Rattle.framehop_walk.specs.declared.refusal.Refusal.{Refusal}
use Rattle.framehop_walk.specs.declared.refusal.Refusal.TheVariants.{OutOfMemory}
use Rattle.framehop_explain_cli.specs.Explained.{IsPrinted}
use Rattle.framehop_explain_cli.specs.FaultText.{IsPlace}

-- the text of a problem: where the input is wrong or, where that is not known, the refusal
abbrev pub place_text : Refusal → Option (List ℕ) → List ℕ
place_text refusal (Some place) = place
place_text refusal None = refusal_text refusal

-- the line of a problem
unfoldable pub problem_line : List ℕ → List ℕ
problem_line text = (codes "framehop-explain: " ++ text) ++ 10 ∷ []

-- the run has printed its answer, and nothing to the other output
pub record HasPrinted (input : InputView) (old new : Outputs) : Type 0 where
  pub printed : IfSome input.remaining (IsPrinted old.out.bytes new.out.bytes)
  pub flushed : new.out.is_flushed ≡ true
  pub noted : new.out.has_failed ≡ old.out.has_failed
  pub silent : Keeps old.err.bytes new.err.bytes

-- the run was refused: one line is written to the one output, and nothing to the other, as far as no write has failed;
-- the line tells where the input is wrong, if that is told of this refusal
pub record HasRefused (refusal : Refusal) (input : InputView) (old new : Outputs) : Type 0 where
  pub place : Option (List ℕ)
  pub placed : IfSome input.remaining (λ bytes. IsPlace refusal bytes place)
  pub told : new.err.has_failed ≡ false
      → Appends old.err.bytes new.err.bytes (problem_line (place_text refusal place))
  pub unwritten : new.out.has_failed ≡ false → Keeps old.out.bytes new.out.bytes

-- a run with this status over an input. Where memory has not run out, a refusal is one that `framehop-walk` has too: for
-- the input, or since a read or a write has failed.
abbrev pub IsRun : ℕ → InputView → InputView → Outputs → Outputs → Type 0
IsRun status input input' old new =
    ((status ≡ 0) × HasPrinted input old new)
    ⊎ ((refusal : Refusal) × (status ≡ refusal_status refusal) × HasRefused refusal input old new
    × (refusal ≢ OutOfMemory → IsOfRun input'.has_failed new.out.has_failed input.remaining refusal))
