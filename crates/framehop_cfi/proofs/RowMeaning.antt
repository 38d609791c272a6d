-- Running instructions one at a time gives the effects of the whole list.
use Rattle.std.proofs.Common.{◌≡◌, ◌≢◌, ℕ, zero, suc, ◌+◌, ◌-◌, ◌<◌, ◌≤◌, false, List, [], ◌∷◌, length, Option, Result, Ok, Err, refl, ap, sym, subst, ◌∙◌, arith, inl, inr}
use Rattle.std.proofs.lemmas.Bool.{lt-leb, le-leb, cases_Bool, cases_lt}
use Rattle.framehop_bytes.specs.Bytes.{◌>>=◌}
use Rattle.framehop_cfi.specs.Instruction.{instruction_at}
use Rattle.framehop_cfi.specs.Row.{Row}
use Rattle.framehop_cfi.specs.Section.{Section}
use Rattle.framehop_cfi.specs.TableRows.{TableRows, effect, effects}
use Rattle.framehop_cfi.specs.RowAt.{row_at, InstructionList, location_after, is_beyond, run, run_from, rows_at, start, begun, covers, instructions_of_cie, instructions_of_fde}
use Rattle.framehop_cfi.specs.RowMeaning.{Stands, Lists, Ends, HasEffect, AreRowsAt, IsRowAt}
use Rattle.framehop_cfi.specs.declared.storage.StorageLimits.{StorageLimits}
use Rattle.framehop_cfi.specs.declared.entry.FrameDescriptionEntry.{FrameDescriptionEntry}
use Rattle.framehop_cfi.specs.declared.instruction.CallFrameInstruction.{CallFrameInstruction}
use Rattle.framehop_cfi.specs.declared.read_error.ReadError.{ReadError}
use Rattle.framehop_cfi.specs.declared.read_error.ReadError.TheVariants.{OutOfMemory}
use Rattle.framehop_cfi.specs.Outcome.{Becomes}
use Rattle.std.specs.Prelude.{OnOk, IfErr}
use Rattle.framehop_cfi.proofs.Forward.{instruction-forward}
use Rattle.framehop_cfi.proofs.Extents.{bind_ok}

pub same : (x y : TableRows) → ◌≡◌ {A = Result TableRows ReadError} (Ok x) (Ok y) → x ≡ y
same x y is = cc

module _ (limits : Option StorageLimits) (code : InstructionList) where
  -- what a list of instructions gives, an instruction at a time
  nothing : (at location : ℕ) (before after : TableRows) → Ends code at location → before ≡ after → HasEffect limits code at location before after
  nothing at location before after ends is = record {
    instructions = [];
    end = at;
    last = location;
    lists = (refl, refl);
    ends = ends;
    effect = ap Ok is;
  }

  one-more : (at location next moved : ℕ) (instruction : CallFrameInstruction) (before middle after : TableRows)
      → Stands code at location instruction next moved → is_beyond code.address moved ≡ false
      → effect limits instruction before ≡ Ok middle → HasEffect limits code next moved middle after
      → HasEffect limits code at location before after
  one-more at location next moved instruction before middle after stands near does rest = record {
    instructions = instruction ∷ rest.instructions;
    end = rest.end;
    last = rest.last;
    lists = (next, moved, stands, near, rest.lists);
    ends = rest.ends;
    effect = rw does rest.effect;
  }

  run-effect : (n at location : ℕ) (before after : TableRows) → length code.bytes < n + at → run limits code n at location before ≡ Ok after → HasEffect limits code at location before after
  run-effect zero at location before after enough is = nothing at location before after (inl (omega arith)) (same before after is)
  run-effect (suc n) at location before after enough is =
      elim (cases_lt at (length code.bytes)) [
        | inl inside ↦
            let e = rw (lt-leb (length code.bytes) at inside) at is in
            let read = bind_ok (instruction_at code.cie code.bases code.bytes at) _ after e in
            let moved = bind_ok (location_after code.cie code.address location read.0.0) _ after read.2 in
            let stands : Stands code at location read.0.0 read.0.1 moved.0 = record { inside = inside; reads = read.1; moves = moved.1 } in
            let past = instruction-forward code.cie code.bases code.bytes at read.0 read.1 in
            elim (cases_Bool (is_beyond code.address moved.0)) [
              | inl beyond ↦
                  let done = rw beyond at moved.2 in
                  nothing at location before after (inr (read.0.0, read.0.1, moved.0, stands, beyond)) (same before after done)
              | inr near ↦
                  let goes = rw near at moved.2 in
                  let done = bind_ok (effect limits read.0.0 before) _ after goes in
                  one-more at location read.0.1 moved.0 read.0.0 before done.0 after stands near done.1
                  (run-effect n read.0.1 moved.0 done.0 after (omega arith) done.2)
            ]
        | inr past ↦
            let e = rw (le-leb (length code.bytes) at past) at is in
            nothing at location before after (inl past) (same before after e)
      ]

  -- a list has no more instructions than bytes are left
  short : (instructions : List CallFrameInstruction) (at location end last : ℕ) → Lists code at location instructions end last → length instructions ≤ length code.bytes - at
  short [] at location end last lists = omega arith
  short (instruction ∷ instructions) at location end last lists =
      let stands = lists.2 in
      let past = instruction-forward code.cie code.bases code.bytes at (instruction, lists.0) stands.reads in
      let rest = short instructions lists.0 lists.1 end last lists.4 in
      let inside = stands.inside in
      omega arith

  ended : (n at location : ℕ) (before : TableRows) → 0 < n → Ends code at location → run limits code n at location before ≡ Ok before
  ended zero at location before some ends = absurd (omega arith)
  ended (suc n) at location before some (inl past) = rw (le-leb (length code.bytes) at past) refl
  ended (suc n) at location before some (inr beyond) =
      let stands = beyond.3 in
      rw (lt-leb (length code.bytes) at stands.inside, stands.reads) (rw stands.moves (rw beyond.4 refl))

  effect-run : (instructions : List CallFrameInstruction) (n at location end last : ℕ) (before after : TableRows)
      → length instructions < n → Lists code at location instructions end last → Ends code end last
      → effects limits instructions before ≡ Ok after → run limits code n at location before ≡ Ok after
  effect-run [] n at location end last before after enough lists ends is =
      let there : Ends code at location = subst (λ e. Ends code e location) (sym lists.0) (subst (λ l. Ends code end l) (sym lists.1) ends) in
      ended n at location before (omega arith) there ∙ is
  effect-run (instruction ∷ instructions) zero at location end last before after enough lists ends is = absurd (omega arith)
  effect-run (instruction ∷ instructions) (suc n) at location end last before after enough lists ends is =
      let stands = lists.2 in
      let done = bind_ok (effect limits instruction before) _ after is in
      let rest = effect-run instructions n lists.0 lists.1 end last done.0 after (omega arith) lists.4 ends done.2 in
      rw (lt-leb (length code.bytes) at stands.inside, stands.reads) (rw stands.moves (rw (lists.3, done.1) rest))

  pub run_from-effect : (at location : ℕ) (before after : TableRows) → run_from limits code at location before ≡ Ok after → HasEffect limits code at location before after
  unfolding run_from
  run_from-effect at location before after is = run-effect (suc (length code.bytes)) at location before after (omega arith) is

  pub effect-run_from : (at location : ℕ) (before after : TableRows) → HasEffect limits code at location before after → run_from limits code at location before ≡ Ok after
  unfolding run_from
  effect-run_from at location before after e =
      let few = short e.instructions at location e.end e.last e.lists in
      effect-run e.instructions (suc (length code.bytes)) at location e.end e.last before after (omega arith) e.lists e.ends e.effect

module _ (limits : Option StorageLimits) (section : Section) (fde : FrameDescriptionEntry) (address : ℕ) (rows : TableRows) where
  -- what the definition by steps gives is the rows of the address
  pub rows_at-means : rows_at limits section fde address ≡ Ok rows → AreRowsAt limits section fde address rows
  unfolding rows_at
  rows_at-means is =
      elim (cases_Bool (covers fde address)) [
        | inl covered ↦
            let e = rw covered at is in
            let middle = bind_ok (run_from limits (instructions_of_cie section fde.cie) fde.cie.instructions 0 start) _ rows e in
            record {
              covered = covered;
              middle = middle.0;
              by_cie = run_from-effect limits (instructions_of_cie section fde.cie) fde.cie.instructions 0 start middle.0 middle.1;
              by_fde = run_from-effect limits (instructions_of_fde section fde address) fde.instructions fde.initial_address (begun middle.0) rows middle.2;
            }
        | inr not-covered ↦ (let e = rw not-covered at is in cc)
      ]

  -- the rows of the address is what the definition by steps gives
  pub means-rows_at : AreRowsAt limits section fde address rows → rows_at limits section fde address ≡ Ok rows
  unfolding rows_at
  means-rows_at m =
      rw m.covered (rw (effect-run_from limits (instructions_of_cie section fde.cie) fde.cie.instructions 0 start m.middle m.by_cie)
      (effect-run_from limits (instructions_of_fde section fde address) fde.instructions fde.initial_address (begun m.middle) rows m.by_fde))

-- the current row of the rows
row-of : (read : Result TableRows ReadError) (row : Row) → (read >>= λ rows. Ok rows.row) ≡ Ok row → (rows : TableRows) × (read ≡ Ok rows) × (rows.row ≡ row)
row-of (Ok rows) row is = (rows, refl, cc)
row-of (Err error) row is = cc

-- what becomes of the rows becomes of the current one
pub becomes-row : {A : Type 0} (result : Result A ReadError) (new : TableRows) (wanted : Result TableRows ReadError)
    → Becomes result new wanted → Becomes result new.row (wanted >>= λ rows. Ok rows.row)
becomes-row (Ok done) new wanted is = rw is refl
becomes-row (Err error) new wanted is = λ kept. rw (is kept) refl

module _ (limits : Option StorageLimits) (section : Section) (fde : FrameDescriptionEntry) (address : ℕ) where
  -- a row is answered only where the address has one
  pub answered : {A : Type 0} (result : Result A ReadError) (new : TableRows) → Becomes result new (rows_at limits section fde address) → OnOk result (IsRowAt limits section fde address new.row)
  answered (Ok done) new is = (new, rows_at-means limits section fde address new is, refl)
  answered (Err error) new is = tt

  -- it is refused only where the address has none
  pub refused : {A : Type 0} (result : Result A ReadError) (new : TableRows)
      → Becomes result new (rows_at limits section fde address)
      → IfErr result (λ error. error ≢ OutOfMemory → (row : Row) → IsRowAt limits section fde address row → ⊥)
  refused (Ok done) new is = tt
  refused (Err error) new is = λ kept row there.
      let first = is kept in
      let second = means-rows_at limits section fde address there.0 there.1 in
      cc

  pub becomes-row_at : {A : Type 0} (result : Result A ReadError) (new : TableRows)
      → Becomes result new (rows_at limits section fde address)
      → Becomes result new.row (row_at limits section fde address)
  unfolding row_at
  becomes-row_at result new is = becomes-row result new (rows_at limits section fde address) is

  pub row_at-means : (row : Row) → row_at limits section fde address ≡ Ok row → IsRowAt limits section fde address row
  unfolding row_at
  row_at-means row is =
      let rows = row-of (rows_at limits section fde address) row is in
      (rows.0, rows_at-means limits section fde address rows.0 rows.1, rows.2)

  pub means-row_at : (row : Row) → IsRowAt limits section fde address row → row_at limits section fde address ≡ Ok row
  unfolding row_at
  means-row_at row there = rw (means-rows_at limits section fde address there.0 there.1) (ap Ok there.2)
