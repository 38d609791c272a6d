-- Rows one after another.
use Rattle.std.proofs.Common.{◌≡◌, ℕ, zero, suc, ◌+◌, ◌<◌, ◌≤◌, ◌*◌, ◌^◌, ◌&&◌, true, false, List, length, take, Option, Some, Result, Ok, Err, refl, sym, ap, subst, ◌∙◌, arith, inl, inr, nat_lt}
use Rattle.std.proofs.lemmas.Bool.{cases_Bool, cases_lt, lt-leb, le-leb, lt-ltb, le-ltb}
use Rattle.framehop_bytes.specs.Bytes.{◌>>=◌}
use Rattle.framehop_cfi.specs.declared.read_error.ReadError.{ReadError}
use Rattle.framehop_cfi.specs.Instruction.{instruction_at}
use Rattle.framehop_cfi.specs.Section.{Section}
use Rattle.framehop_cfi.specs.TableRows.{TableRows, effect}
use Rattle.framehop_cfi.specs.RowAt.{InstructionList, location_after, is_beyond, risen, run, run_from, rows_at, row_at, start, begun, instructions_of_cie, instructions_of_fde}
use Rattle.framehop_cfi.specs.RowCursor.{HasReached, HaveRow, HaveNoRow}
use Rattle.framehop_cfi.specs.declared.storage.StorageLimits.{StorageLimits}
use Rattle.framehop_cfi.specs.declared.pointer.SectionBaseAddresses.{SectionBaseAddresses}
use Rattle.framehop_cfi.specs.declared.entry.CommonInformationEntry.{CommonInformationEntry}
use Rattle.framehop_cfi.specs.declared.entry.FrameDescriptionEntry.{FrameDescriptionEntry}
use Rattle.framehop_cfi.specs.declared.instruction.CallFrameInstruction.{CallFrameInstruction}
use Rattle.framehop_cfi.specs.declared.instruction.CallFrameInstruction.TheVariants.{
  Nop,
  NegateRaState,
  ArgsSize,
  SetLoc,
  AdvanceLoc,
  SetRule,
  Restore,
  RememberState,
  RestoreState,
  DefCfa,
  DefCfaRegister,
  DefCfaOffset,
}
use Rattle.framehop_cfi.proofs.Forward.{instruction-forward}
use Rattle.framehop_cfi.proofs.Run.{run-unread, run-unmoved, run-refused}

-- what comes after a reading, where that depends on the value only
pub bind-same : {A B E : Type 0} (r : Result A E) (f g : A → Result B E) → ((x : A) → r ≡ Ok x → f x ≡ g x) → (r >>= f) ≡ (r >>= g)
bind-same (Ok x) f g same = same x refl
bind-same (Err e) f g same = refl

module _ (limits : Option StorageLimits) (code : InstructionList) where
  -- any number of steps that is enough gives the same
  pub run-enough : (n m at location : ℕ) (rows : TableRows) → length code.bytes < n + at → length code.bytes < m + at
      → run limits code n at location rows ≡ run limits code m at location rows
  run-enough zero zero at location rows enough too = refl
  run-enough zero (suc m) at location rows enough too = rw (le-leb (length code.bytes) at (omega arith)) refl
  run-enough (suc n) zero at location rows enough too = rw (le-leb (length code.bytes) at (omega arith)) refl
  run-enough (suc n) (suc m) at location rows enough too =
      elim (cases_lt at (length code.bytes)) [
        | inl inside ↦
            rw (lt-leb (length code.bytes) at inside)
            (bind-same (instruction_at code.cie code.bases code.bytes at) _ _ (λ read reads.
            let past = instruction-forward code.cie code.bases code.bytes at read reads in
            bind-same (location_after code.cie code.address location read.0) _ _ (λ moved moves.
            elim (cases_Bool (is_beyond code.address moved)) [
              | inl beyond ↦ rw beyond refl
              | inr near ↦
                  rw near
                  (bind-same (effect limits read.0 rows) _ _ (λ after does.
                  run-enough n m read.1 moved after (omega arith) (omega arith)))
            ])))
        | inr past ↦ rw (le-leb (length code.bytes) at past) refl
      ]

  -- nothing is left to be run
  pub run_from-end : (at location : ℕ) (rows : TableRows) → length code.bytes ≤ at → run_from limits code at location rows ≡ Ok rows
  unfolding run_from
  run_from-end at location rows past = rw (le-leb (length code.bytes) at past) refl

  -- the first instruction moves beyond the address
  pub run_from-beyond : (at location next moved : ℕ) (instruction : CallFrameInstruction) (rows : TableRows)
      → at < length code.bytes → instruction_at code.cie code.bases code.bytes at ≡ Ok (instruction, next)
      → location_after code.cie code.address location instruction ≡ Ok moved → is_beyond code.address moved ≡ true
      → run_from limits code at location rows ≡ Ok rows
  unfolding run_from
  run_from-beyond at location next moved instruction rows inside reads moves beyond =
      rw (lt-leb (length code.bytes) at inside, reads) (rw moves (rw beyond refl))

  -- the first instruction is run
  pub run_from-step : (at location next moved : ℕ) (instruction : CallFrameInstruction) (rows after : TableRows)
      → at < length code.bytes → instruction_at code.cie code.bases code.bytes at ≡ Ok (instruction, next)
      → location_after code.cie code.address location instruction ≡ Ok moved → is_beyond code.address moved ≡ false
      → effect limits instruction rows ≡ Ok after
      → run_from limits code at location rows ≡ run_from limits code next moved after
  unfolding run_from
  run_from-step at location next moved instruction rows after inside reads moves near does =
      let past = instruction-forward code.cie code.bases code.bytes at (instruction, next) reads in
      rw (lt-leb (length code.bytes) at inside, reads) (rw moves (rw (near, does)
      (run-enough (length code.bytes) (suc (length code.bytes)) next moved after (omega arith) (omega arith))))

  -- the first instruction is refused
  pub run_from-unread : (at location : ℕ) (rows : TableRows) (error : ReadError) → at < length code.bytes
      → instruction_at code.cie code.bases code.bytes at ≡ Err error → run_from limits code at location rows ≡ Err error
  unfolding run_from
  run_from-unread at location rows error inside reads = run-unread limits code (suc (length code.bytes)) at location rows error (omega arith, inside) reads

  pub run_from-unmoved : (at location : ℕ) (rows : TableRows) (read : CallFrameInstruction × ℕ) (error : ReadError)
      → at < length code.bytes → instruction_at code.cie code.bases code.bytes at ≡ Ok read
      → location_after code.cie code.address location read.0 ≡ Err error → run_from limits code at location rows ≡ Err error
  unfolding run_from
  run_from-unmoved at location rows read error inside reads moves = run-unmoved limits code (suc (length code.bytes)) at location rows read error (omega arith, inside) reads moves

  pub run_from-refused : (at location moved : ℕ) (rows : TableRows) (read : CallFrameInstruction × ℕ) (error : ReadError)
      → at < length code.bytes → instruction_at code.cie code.bases code.bytes at ≡ Ok read
      → location_after code.cie code.address location read.0 ≡ Ok moved → is_beyond code.address moved ≡ false
      → effect limits read.0 rows ≡ Err error → run_from limits code at location rows ≡ Err error
  unfolding run_from
  run_from-refused at location moved rows read error inside reads moves near refused =
      run-refused limits code (suc (length code.bytes)) at location moved rows read error (omega arith, inside) reads moves near refused

-- of an FDE it doesn't matter which address is looked for
pub any-address : (cie : CommonInformationEntry) (a b location : ℕ) (instruction : CallFrameInstruction)
    → location_after cie (Some a) location instruction ≡ location_after cie (Some b) location instruction
any-address cie a b location Nop = refl
any-address cie a b location NegateRaState = refl
any-address cie a b location (ArgsSize size) = refl
any-address cie a b location (SetLoc address) = refl
any-address cie a b location (AdvanceLoc delta) = refl
any-address cie a b location (SetRule register rule) = refl
any-address cie a b location (Restore register) = refl
any-address cie a b location RememberState = refl
any-address cie a b location RestoreState = refl
any-address cie a b location (DefCfa cfa) = refl
any-address cie a b location (DefCfaRegister register) = refl
any-address cie a b location (DefCfaOffset offset) = refl

-- an instruction that moves the location does nothing else, and none moves it back
stays : (location moved : ℕ) → ◌≡◌ {A = Result ℕ ReadError} (Ok location) (Ok moved) → location ≡ moved
stays location moved is = cc

-- a rise is none downwards
rises : (location bytes moved : ℕ) → risen location bytes ≡ Ok moved → location ≤ moved
rises location bytes moved is =
    elim (cases_Bool (nat_lt bytes (2 ^ 63) && nat_lt (location + bytes) (2 ^ 64))) [
      | inl fits ↦ (let e = rw fits at is in let f = stays (location + bytes) moved e in omega arith)
      | inr large ↦ (let e = rw large at is in cc)
    ]

pub mover : (limits : Option StorageLimits) (cie : CommonInformationEntry) (a location moved : ℕ) (instruction : CallFrameInstruction)
    (rows : TableRows) → location_after cie (Some a) location instruction ≡ Ok moved → location < moved
    → effect limits instruction rows ≡ Ok rows
mover limits cie a location moved Nop rows moves more = refl
mover limits cie a location moved NegateRaState rows moves more = refl
mover limits cie a location moved (ArgsSize size) rows moves more = refl
mover limits cie a location moved (SetLoc address) rows moves more = refl
mover limits cie a location moved (AdvanceLoc delta) rows moves more = refl
mover limits cie a location moved (SetRule register rule) rows moves more = let e = stays location moved moves in absurd (omega arith)
mover limits cie a location moved (Restore register) rows moves more = let e = stays location moved moves in absurd (omega arith)
mover limits cie a location moved RememberState rows moves more = let e = stays location moved moves in absurd (omega arith)
mover limits cie a location moved RestoreState rows moves more = let e = stays location moved moves in absurd (omega arith)
mover limits cie a location moved (DefCfa cfa) rows moves more = let e = stays location moved moves in absurd (omega arith)
mover limits cie a location moved (DefCfaRegister register) rows moves more = let e = stays location moved moves in absurd (omega arith)
mover limits cie a location moved (DefCfaOffset offset) rows moves more = let e = stays location moved moves in absurd (omega arith)

pub not-back : (cie : CommonInformationEntry) (a location moved : ℕ) (instruction : CallFrameInstruction)
    → location_after cie (Some a) location instruction ≡ Ok moved → location ≤ moved
not-back cie a location moved Nop moves = let e = stays location moved moves in omega arith
not-back cie a location moved NegateRaState moves = let e = stays location moved moves in omega arith
not-back cie a location moved (ArgsSize size) moves = let e = stays location moved moves in omega arith
not-back cie a location moved (SetLoc address) moves =
    elim (cases_lt address location) [
      | inl less ↦ (let e = rw (lt-ltb address location less) at moves in cc)
      | inr more ↦ (let e = rw (le-ltb address location more) at moves in let f = stays address moved e in omega arith)
    ]
not-back cie a location moved (AdvanceLoc delta) moves = rises location (delta * cie.code_alignment_factor) moved moves
not-back cie a location moved (SetRule register rule) moves = let e = stays location moved moves in omega arith
not-back cie a location moved (Restore register) moves = let e = stays location moved moves in omega arith
not-back cie a location moved RememberState moves = let e = stays location moved moves in omega arith
not-back cie a location moved RestoreState moves = let e = stays location moved moves in omega arith
not-back cie a location moved (DefCfa cfa) moves = let e = stays location moved moves in omega arith
not-back cie a location moved (DefCfaRegister register) moves = let e = stays location moved moves in omega arith
not-back cie a location moved (DefCfaOffset offset) moves = let e = stays location moved moves in omega arith

module _ (limits : Option StorageLimits) (section : Section) (fde : FrameDescriptionEntry) where
  -- the rows of an FDE begin with what the CIE's instructions leave
  pub begins : (middle : TableRows)
      → run_from limits (instructions_of_cie section fde.cie) fde.cie.instructions 0 start ≡ Ok middle
      → HasReached limits section fde fde.instructions fde.initial_address (begun middle)
  unfolding rows_at
  begins middle is address covered near = rw covered (rw is refl)

  pub not-begun : (error : ReadError)
      → run_from limits (instructions_of_cie section fde.cie) fde.cie.instructions 0 start ≡ Err error
      → HaveNoRow limits section fde fde.initial_address error
  unfolding rows_at row_at
  not-begun error is address covered near = rw covered (rw is refl)

  -- one more instruction that does not move
  pub reaches-on : (at location next moved : ℕ) (instruction : CallFrameInstruction) (rows after : TableRows)
      → at < length (take fde.end section.bytes)
      → instruction_at fde.cie section.bases (take fde.end section.bytes) at ≡ Ok (instruction, next)
      → location_after fde.cie (Some location) location instruction ≡ Ok moved → moved ≤ location
      → effect limits instruction rows ≡ Ok after
      → HasReached limits section fde at location rows → HasReached limits section fde next location after
  reaches-on at location next moved instruction rows after inside reads moves near does reached address covered from =
      let same : moved ≡ location = let back = not-back fde.cie location location moved instruction moves in omega arith in
      reached address covered from
      ∙ run_from-step limits (instructions_of_fde section fde address) at location next location instruction rows after
      inside reads (any-address fde.cie address location location instruction ∙ (moves ∙ ap Ok same))
      (le-ltb address location from) does

  -- a move beyond the location: the row is that of the addresses up to it
  pub row-before : (at location next moved : ℕ) (instruction : CallFrameInstruction) (rows : TableRows)
      → at < length (take fde.end section.bytes)
      → instruction_at fde.cie section.bases (take fde.end section.bytes) at ≡ Ok (instruction, next)
      → location_after fde.cie (Some location) location instruction ≡ Ok moved
      → HasReached limits section fde at location rows → HaveRow limits section fde location moved rows.row
  unfolding row_at
  row-before at location next moved instruction rows inside reads moves reached address covered from below =
      rw (reached address covered from
      ∙ run_from-beyond limits (instructions_of_fde section fde address) at location next moved instruction rows
      inside reads (any-address fde.cie address location location instruction ∙ moves) (lt-ltb address moved below)) refl

  pub reached-after : (at location next moved : ℕ) (instruction : CallFrameInstruction) (rows : TableRows)
      → at < length (take fde.end section.bytes)
      → instruction_at fde.cie section.bases (take fde.end section.bytes) at ≡ Ok (instruction, next)
      → location_after fde.cie (Some location) location instruction ≡ Ok moved → location < moved
      → HasReached limits section fde at location rows → HasReached limits section fde next moved rows
  reached-after at location next moved instruction rows inside reads moves more reached address covered from =
      reached address covered (omega arith)
      ∙ run_from-step limits (instructions_of_fde section fde address) at location next moved instruction rows rows
      inside reads (any-address fde.cie address location location instruction ∙ moves) (le-ltb address moved from)
      (mover limits fde.cie location location moved instruction rows moves more)

  -- the instructions end: the row is that of all addresses from there on
  pub row-at-end : (at location end : ℕ) (rows : TableRows) → length (take fde.end section.bytes) ≤ at
      → HasReached limits section fde at location rows → HaveRow limits section fde location end rows.row
  unfolding row_at
  row-at-end at location end rows past reached address covered from below =
      rw (reached address covered from ∙ run_from-end limits (instructions_of_fde section fde address) at location rows past) refl

  pub reached-end : (at location end : ℕ) (rows : TableRows) → length (take fde.end section.bytes) ≤ at → location ≤ end
      → HasReached limits section fde at location rows → HasReached limits section fde at end rows
  reached-end at location end rows past more reached address covered from =
      reached address covered (omega arith)
      ∙ (run_from-end limits (instructions_of_fde section fde address) at location rows past
      ∙ sym (run_from-end limits (instructions_of_fde section fde address) at end rows past))

  -- refusals
  pub no-row-unread : (at location : ℕ) (rows : TableRows) (error : ReadError) → at < length (take fde.end section.bytes)
      → instruction_at fde.cie section.bases (take fde.end section.bytes) at ≡ Err error
      → HasReached limits section fde at location rows → HaveNoRow limits section fde location error
  unfolding row_at
  no-row-unread at location rows error inside reads reached address covered from =
      rw (reached address covered from ∙ run_from-unread limits (instructions_of_fde section fde address) at location rows error inside reads) refl

  pub no-row-unmoved : (at location : ℕ) (rows : TableRows) (read : CallFrameInstruction × ℕ) (error : ReadError)
      → at < length (take fde.end section.bytes)
      → instruction_at fde.cie section.bases (take fde.end section.bytes) at ≡ Ok read
      → location_after fde.cie (Some location) location read.0 ≡ Err error
      → HasReached limits section fde at location rows → HaveNoRow limits section fde location error
  unfolding row_at
  no-row-unmoved at location rows read error inside reads moves reached address covered from =
      rw (reached address covered from ∙ run_from-unmoved limits (instructions_of_fde section fde address) at location rows read error
      inside reads (any-address fde.cie address location location read.0 ∙ moves)) refl

  pub no-row-refused : (at location moved : ℕ) (rows : TableRows) (read : CallFrameInstruction × ℕ) (error : ReadError)
      → at < length (take fde.end section.bytes)
      → instruction_at fde.cie section.bases (take fde.end section.bytes) at ≡ Ok read
      → location_after fde.cie (Some location) location read.0 ≡ Ok moved → moved ≤ location
      → effect limits read.0 rows ≡ Err error
      → HasReached limits section fde at location rows → HaveNoRow limits section fde location error
  unfolding row_at
  no-row-refused at location moved rows read error inside reads moves near refused reached address covered from =
      rw (reached address covered from ∙ run_from-refused limits (instructions_of_fde section fde address) at location moved rows read error
      inside reads (any-address fde.cie address location location read.0 ∙ moves) (le-ltb address moved (omega (arith, near, from))) refused) refl

-- the bytes and bases that the code has are the section's
module _ (section : Section) (fde : FrameDescriptionEntry) (bytes : List ℕ) (bases : SectionBaseAddresses)
    (b : bytes ≡ take fde.end section.bytes) (a : bases ≡ section.bases) where
  pub inside-there : (at : ℕ) → at < length bytes → at < length (take fde.end section.bytes)
  inside-there at inside = subst (λ xs. at < length xs) b inside

  pub past-there : (at : ℕ) → length bytes ≤ at → length (take fde.end section.bytes) ≤ at
  past-there at past = subst (λ xs. length xs ≤ at) b past

  pub reads-there : (at : ℕ) (read : Result (CallFrameInstruction × ℕ) ReadError)
      → instruction_at fde.cie bases bytes at ≡ read
      → instruction_at fde.cie section.bases (take fde.end section.bytes) at ≡ read
  reads-there at read is =
      subst (λ (xs : List ℕ). instruction_at fde.cie section.bases xs at ≡ read) b
      (subst (λ (s : SectionBaseAddresses). instruction_at fde.cie s bytes at ≡ read) a is)
