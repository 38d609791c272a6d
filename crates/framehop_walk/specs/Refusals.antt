-- Why a run is refused: the line that it prints after the program's name, and its exit status.
use Rattle.std.specs.Prelude.{◌≡◌, ◌≢◌, ℕ, List, ◌∷◌, [], ◌++◌, codes, Result, Ok, Err}
use Rattle.framehop_walk.specs.declared.refusal.Refusal.{Refusal}
use Rattle.framehop_walk.specs.declared.refusal.Refusal.TheVariants.{Usage, CannotReadInput, CannotWriteOutput, NotJson, BadNumber, BadField, NoSuchUnwinder, NoSuchCache, OutOfMemory, GenerationsExhausted}
use Rattle.std.specs.declared.io.ErrorKind.{ErrorKind}
use Rattle.std.specs.declared.io.ErrorKind.TheVariants as kind
use Rattle.framehop.specs.declared.session.SessionError.{SessionError}
use Rattle.framehop.specs.declared.session.SessionError.TheVariants as session

-- the refusal of a field that is missing or wrong
unfoldable pub bad_field : List ℕ → List ℕ
bad_field name = codes "input refused: bad field " ++ name

-- the text of each refusal
abbrev pub refusal_text : Refusal → List ℕ
refusal_text Usage = codes "usage: framehop-walk [FILE]"
refusal_text CannotReadInput = codes "cannot read input"
refusal_text CannotWriteOutput = codes "cannot write output"
refusal_text NotJson = codes "input refused: not JSON"
refusal_text BadNumber = codes "input refused: bad number"
refusal_text (BadField name) = bad_field name.now
refusal_text NoSuchUnwinder = codes "input refused: no such unwinder"
refusal_text NoSuchCache = codes "input refused: no such cache"
refusal_text OutOfMemory = codes "out of memory"
refusal_text GenerationsExhausted = codes "generations exhausted"

-- the line of a refusal
unfoldable pub refusal_line : Refusal → List ℕ
refusal_line refusal = (codes "framehop-walk: " ++ refusal_text refusal) ++ 10 ∷ []

-- 2 where the machine was too small, else 1
abbrev pub refusal_status : Refusal → ℕ
refusal_status OutOfMemory = 2
refusal_status GenerationsExhausted = 2
refusal_status _ = 1

-- the refusal of a session
abbrev pub of_session : SessionError → Refusal
of_session session.OutOfMemory = OutOfMemory
of_session session.NoSuchUnwinder = NoSuchUnwinder
of_session session.NoSuchCache = NoSuchCache
of_session session.GenerationsExhausted = GenerationsExhausted

-- the refusal of input that can't be read
abbrev pub of_kind : ErrorKind → Refusal
of_kind kind.OutOfMemory = OutOfMemory
of_kind _ = CannotReadInput

-- what is read: a value, or the text of the refusal
abbrev pub Reading : Type 0 → Type 0
Reading A = Result A (List ℕ)

-- one reading after another: the first refusal counts
abbrev pub and_then : {A B : Type 0} → Reading A → (A → Reading B) → Reading B
and_then (Ok value) next = next value
and_then (Err refusal) next = Err refusal

-- what a reader has read, seen so
abbrev pub reading_of : {A B : Type 0} → (A → B) → Result A Refusal → Reading B
reading_of view (Ok value) = Ok (view value)
reading_of view (Err refusal) = Err (refusal_text refusal)

-- the same where nothing has to be seen otherwise
abbrev pub told : {A : Type 0} → Result A Refusal → Reading A
told (Ok value) = Ok value
told (Err refusal) = Err (refusal_text refusal)

-- what a reader returns is what is read, or the first refusal; running out of memory is excepted
abbrev pub Reads : {A B : Type 0} → (Reading A → B → Type 0) → Reading A → Result B Refusal → Type 0
Reads says reading (Ok value) = says reading value
Reads says reading (Err refusal) = refusal ≢ OutOfMemory → reading ≡ Err (refusal_text refusal)
