-- How a run of the program ends: by its status, its output and its error line.
use Rattle.std.specs.Prelude.{◌≡◌, ◌≢◌, ◌⊎◌, ℕ, true, false, List, [], ◌∷◌, Option, Some, None, Result, Ok, Err, IfSome, option_map}
use Rattle.std.specs.Borrow.{Bor}
use Rattle.std.specs.declared.io.Error.{Error as IoError}
use Rattle.std.specs.IoError.{error_kind}
use Rattle.std.specs.Io.KnownBytes.{Keeps, Appends}
use Rattle.framehop_walk.specs.Refusals.{Reading, refusal_text, refusal_status, refusal_line, of_kind}
use Rattle.framehop_walk.specs.Reading.{IsAccepted}
use Rattle.framehop_walk.specs.Answers.{IsPrinted, IsOfRun}
use Rattle.framehop_walk.specs.Streams.{InputView, Outputs, input_over}
use Rattle.framehop_walk.specs.declared.refusal.Refusal.{Refusal}
use Rattle.framehop_walk.specs.declared.refusal.Refusal.TheVariants.{OutOfMemory, Usage}

-- the run has printed its answer: the input is accepted, the output has grown by the lines of its answer and is flushed,
-- no write to it has failed, and nothing is written to the other output
pub record HasPrinted (input : InputView) (old new : Outputs) : Type 0 where
  pub read : IfSome input.remaining IsAccepted
  pub printed : IfSome input.remaining (IsPrinted old.out.bytes new.out.bytes)
  pub flushed : new.out.is_flushed ≡ true
  pub noted : new.out.has_failed ≡ old.out.has_failed
  pub silent : Keeps old.err.bytes new.err.bytes

-- the run was refused: the line of the refusal is written to the one output, and nothing to the other, as far as no
-- write has failed
pub record HasRefused (refusal : Refusal) (old new : Outputs) : Type 0 where
  pub told : new.err.has_failed ≡ false → Appends old.err.bytes new.err.bytes (refusal_line refusal)
  pub unwritten : new.out.has_failed ≡ false → Keeps old.out.bytes new.out.bytes

-- a run with this status over an input; a refusal is one that is due, where memory has not run out
abbrev pub IsRun : ℕ → InputView → InputView → Outputs → Outputs → Type 0
IsRun status input input' old new =
    ((status ≡ 0) × HasPrinted input old new)
    ⊎ ((refusal : Refusal) × (status ≡ refusal_status refusal) × HasRefused refusal old new
    × (refusal ≢ OutOfMemory → IsOfRun input'.has_failed new.out.has_failed input.remaining refusal))

-- what the arguments name, of which the first is the program's name: the path of a file, or none for standard input
abbrev pub input_path : List (List ℕ) → Reading (Option (List ℕ))
input_path [] = Ok None
input_path (program ∷ []) = Ok None
input_path (program ∷ path ∷ []) = Ok (Some path)
input_path (program ∷ path ∷ other ∷ others) = Err (refusal_text Usage)

-- the input that is opened, or the refusal where it can't be
abbrev pub opened_input : {R : Type 0} → (R → Option (List ℕ)) → Result R IoError → Result InputView Refusal
opened_input remaining (Ok reader) = Ok (input_over (remaining reader))
opened_input remaining (Err error) = Err (of_kind (error_kind error))

-- a call that opens a path, over what such a call gives, has opened this input
abbrev pub Opens : {R : Type 0} → (R → Option (List ℕ)) → (Option (Bor (List ℕ)) → Result R IoError → Type 0)
    → Option (List ℕ) → Result InputView Refusal → Type 0
Opens {R} remaining Gives path opened =
    (asked : Option (Bor (List ℕ))) × (result : Result R IoError)
    × (option_map (λ (p : Bor (List ℕ)). p.now) asked ≡ path)
    × Gives asked result × (opened ≡ opened_input remaining result)

-- a run over what was opened, with the input as it is left, if there is one
abbrev pub IsRunOver : Result InputView Refusal → ℕ → Option InputView → Outputs → Outputs → Type 0
IsRunOver (Ok input) status (Some input') old new = IsRun status input input' old new
IsRunOver (Ok input) status None old new = ⊥
IsRunOver (Err refusal) status input' old new =
    (input' ≡ None) × (status ≡ refusal_status refusal) × HasRefused refusal old new

-- a run over arguments: what they name is opened, or they are refused
abbrev pub IsRunOn : (Option (List ℕ) → Result InputView Refusal → Type 0) → Reading (Option (List ℕ))
    → ℕ → Option InputView → Outputs → Outputs → Type 0
IsRunOn OpensAs (Ok path) status input' old new =
    (opened : Result InputView Refusal) × OpensAs path opened × IsRunOver opened status input' old new
IsRunOn OpensAs (Err text) status input' old new = IsRunOver (Err Usage) status input' old new
