-- A writer by what is known of it: its bytes, where they are known, and what has failed.
use Rattle.std.specs.Prelude.{ℕ, Bool, false, List, Option}

-- an output: the bytes that it holds, whether a write or a flush has failed, and whether it was flushed after the last
-- write
pub record OutputView : Type 0 where
  pub bytes : Option (List ℕ)
  pub has_failed : Bool
  pub is_flushed : Bool

-- an output over these bytes, at first
abbrev pub output_over : Option (List ℕ) → OutputView
output_over bytes = record { bytes = bytes; has_failed = false; is_flushed = false }
