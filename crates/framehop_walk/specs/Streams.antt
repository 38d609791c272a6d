-- The streams of a run: their bytes, where they are known, and what has failed.
use Rattle.std.specs.Prelude.{ℕ, Bool, false, List, Option}
use Rattle.framehop_output.specs.Output.{OutputView}

-- an input: the bytes that are left, and whether a read has failed
pub record InputView : Type 0 where
  pub remaining : Option (List ℕ)
  pub has_failed : Bool

-- an input over these bytes, at first
abbrev pub input_over : Option (List ℕ) → InputView
input_over remaining = record { remaining = remaining; has_failed = false }

-- the two outputs of a run: what it prints, and its error line
pub record Outputs : Type 0 where
  pub out : OutputView
  pub err : OutputView

abbrev pub outputs : OutputView → OutputView → Outputs
outputs out err = record { out = out; err = err }
