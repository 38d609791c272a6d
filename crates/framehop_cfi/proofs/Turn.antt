-- Turns of a list, one after another.
use Rattle.std.proofs.Common.{◌≡◌, ℕ, suc, zero, ◌+◌, ◌<◌, Bool, true, false, not, [], length, Option, Some, None, Result, Ok, Err, refl, sym, ap, ◌∙◌, arith, inl, inr}
use Rattle.std.proofs.lemmas.Bool.{cases_Bool, lt-leb, and_parts}
use Rattle.framehop_bytes.specs.Bytes.{◌>>=◌}
use Rattle.framehop_cfi.specs.Instruction.{instruction_at}
use Rattle.framehop_cfi.specs.TableRows.{TableRows, effect}
use Rattle.framehop_cfi.specs.RowAt.{InstructionList, run, location_after, is_beyond}
use Rattle.framehop_cfi.specs.RowRoom.{needs_room, one_needs_room, is_ok_and}
use Rattle.framehop_cfi.specs.Turn.{Turned, turn, turn_needs_room}
use Rattle.framehop_cfi.specs.declared.context.RowCursor.{RowCursor}
use Rattle.framehop_cfi.specs.declared.storage.StorageLimits.{StorageLimits}
use Rattle.framehop_cfi.specs.declared.instruction.CallFrameInstruction.{CallFrameInstruction}
use Rattle.framehop_cfi.specs.declared.read_error.ReadError.{ReadError}
use Rattle.framehop_cfi.proofs.Cursor.{bind-same}
use Rattle.framehop_cfi.proofs.Extents.{bind_ok}
use Rattle.framehop_cfi.proofs.Forward.{instruction-forward}
use Rattle.framehop_cfi.proofs.Room.{one-on, needs-here, none-stays, needless}
use Rattle.framehop_cfi.proofs.Run.{IsIn}

bind-again : {A B C E : Type 0} (r : Result A E) (f : A → Result B E) (g : B → Result C E) → ((r >>= f) >>= g) ≡ (r >>= λ x. f x >>= g)
bind-again (Ok x) f g = refl
bind-again (Err e) f g = refl

ok-and : {A : Type 0} (test : A → Bool) (r : Result A ReadError) → is_ok_and test r ≡ true → (x : A) × (r ≡ Ok x) × (test x ≡ true)
ok-and test (Ok x) is = (x, refl, is)
ok-and test (Err e) is = cc

not-false : (b : Bool) → not b ≡ true → b ≡ false
not-false true is = cc
not-false false is = refl

one-turn : (a b : Turned) → ◌≡◌ {A = Result Turned ReadError} (Ok a) (Ok b) → a ≡ b
one-turn a b is = cc

apart : (rows after : TableRows) (cursor : RowCursor) → ◌≡◌ {A = Result Turned ReadError} (Ok (None, rows)) (Ok (Some cursor, after)) → ⊥
apart rows after cursor is =
    let e : None ≡ Some cursor = ap (λ (t : Turned). t.0) (one-turn (None, rows) (Some cursor, after) is) in cc

same-turn : (x y : RowCursor) (rows after : TableRows) → ◌≡◌ {A = Result Turned ReadError} (Ok (Some x, rows)) (Ok (Some y, after)) → (x ≡ y) × (rows ≡ after)
same-turn x y rows after is =
    let one = one-turn (Some x, rows) (Some y, after) is in
    let e : Some x ≡ Some y = ap (λ (t : Turned). t.0) one in
    let cursors : x ≡ y = cc in
    (cursors, ap (λ (t : Turned). t.1) one)

-- a turn that goes on: the instruction, and what it did
record Goes (limits : Option StorageLimits) (code : InstructionList) (at location : ℕ) (rows : TableRows)
    (cursor : RowCursor) (after : TableRows) : Type 0 where
  instruction : CallFrameInstruction
  reads : instruction_at code.cie code.bases code.bytes at ≡ Ok (instruction, cursor.next)
  moves : location_after code.cie code.address location instruction ≡ Ok cursor.location
  near : is_beyond code.address cursor.location ≡ false
  does : effect limits instruction rows ≡ Ok after

module _ (limits : Option StorageLimits) (code : InstructionList) where
  -- the rest of the list after a turn
  abbrev rest : ℕ → Turned → Result TableRows ReadError
  rest n (None, rows) = Ok rows
  rest n (Some cursor, rows) = run limits code n cursor.next cursor.location rows

  run-turn : (n at location : ℕ) (rows : TableRows) → at < length code.bytes
      → (turn limits code at location rows >>= rest n) ≡ run limits code (suc n) at location rows
  run-turn n at location rows inside =
      rw (lt-leb (length code.bytes) at inside)
      (bind-again (instruction_at code.cie code.bases code.bytes at) _ (rest n)
      ∙ bind-same (instruction_at code.cie code.bases code.bytes at) _ _ (λ read reads.
      bind-again (location_after code.cie code.address location read.0) _ (rest n)
      ∙ bind-same (location_after code.cie code.address location read.0) _ _ (λ moved moves.
      elim (cases_Bool (is_beyond code.address moved)) [
        | inl beyond ↦ rw beyond refl
        | inr near ↦ rw near (bind-again (effect limits read.0 rows) _ (rest n))
      ])))

  -- the list ends
  pub turn-ends : (n at location : ℕ) (rows after : TableRows) → IsIn code n at
      → turn limits code at location rows ≡ Ok (None, after) → run limits code n at location rows ≡ Ok after
  turn-ends zero at location rows after inside is = absurd (omega arith)
  turn-ends (suc n) at location rows after inside is =
      sym (run-turn n at location rows inside.1) ∙ ap (λ turned. turned >>= rest n) is

  -- the instruction is refused
  pub turn-refused : (n at location : ℕ) (rows : TableRows) (error : ReadError) → IsIn code n at
      → turn limits code at location rows ≡ Err error → run limits code n at location rows ≡ Err error
  turn-refused zero at location rows error inside is = absurd (omega arith)
  turn-refused (suc n) at location rows error inside is =
      sym (run-turn n at location rows inside.1) ∙ ap (λ turned. turned >>= rest n) is

  goes : (at location : ℕ) (rows : TableRows) (cursor : RowCursor) (after : TableRows)
      → turn limits code at location rows ≡ Ok (Some cursor, after) → Goes limits code at location rows cursor after
  goes at location rows cursor after is =
      let read = bind_ok (instruction_at code.cie code.bases code.bytes at) _ _ is in
      let moved = bind_ok (location_after code.cie code.address location read.0.0) _ _ read.2 in
      elim (cases_Bool (is_beyond code.address moved.0)) [
        | inl beyond ↦ absurd (apart rows after cursor (rw beyond at moved.2))
        | inr near ↦
            let done = bind_ok (effect limits read.0.0 rows) _ _ (rw near at moved.2) in
            let same = same-turn (record { next = read.0.1; location = moved.0 }) cursor done.0 after done.2 in
            let next = ap (λ (c : RowCursor). c.next) same.0 in
            let there = ap (λ (c : RowCursor). c.location) same.0 in
            record {
              instruction = read.0.0;
              reads = read.1 ∙ ap (λ n. Ok (read.0.0, n)) next;
              moves = moved.1 ∙ ap (λ n. Ok n) there;
              near = ap (λ n. is_beyond code.address n) (sym there) ∙ near;
              does = done.1 ∙ ap (λ r. Ok r) same.1;
            }
      ]

  -- the next instruction is after this one
  pub turn-forward : (at location : ℕ) (rows : TableRows) (cursor : RowCursor) (after : TableRows)
      → turn limits code at location rows ≡ Ok (Some cursor, after) → at < cursor.next
  turn-forward at location rows cursor after is =
      let step = goes at location rows cursor after is in
      instruction-forward code.cie code.bases code.bytes at (step.instruction, cursor.next) step.reads

  -- and its location is not beyond the address
  pub turn-near : (at location : ℕ) (rows : TableRows) (cursor : RowCursor) (after : TableRows)
      → turn limits code at location rows ≡ Ok (Some cursor, after) → is_beyond code.address cursor.location ≡ false
  turn-near at location rows cursor after is = (goes at location rows cursor after is).near

  -- what is known of a list at one of its instructions is known after it
  pub turn-on : (n at location : ℕ) (rows : TableRows) (cursor : RowCursor) (after : TableRows)
      (whole : Result TableRows ReadError) (needed : Bool) → IsIn code n at
      → turn limits code at location rows ≡ Ok (Some cursor, after) → run limits code n at location rows ≡ whole
      → (one_needs_room code n at location ≡ true → needed ≡ true)
      → (m : ℕ) × (length code.bytes < m + cursor.next)
      × (run limits code m cursor.next cursor.location after ≡ whole)
      × (one_needs_room code m cursor.next cursor.location ≡ true → needed ≡ true)
  turn-on n at location rows cursor after whole needed inside is runs needs =
      let step = goes at location rows cursor after is in
      one-on code limits n at location cursor.location rows after (step.instruction, cursor.next) whole needed inside
      step.reads step.moves step.near step.does (turn-forward at location rows cursor after is) runs needs

  -- the instruction needs room
  pub turn-needs : (n at location : ℕ) → IsIn code n at → turn_needs_room code at location ≡ true
      → one_needs_room code n at location ≡ true
  turn-needs n at location inside is =
      let read = ok-and _ (instruction_at code.cie code.bases code.bytes at) is in
      let moved = ok-and _ (location_after code.cie code.address location read.0.0) read.2 in
      let parts = and_parts (not (is_beyond code.address moved.0)) (needs_room read.0.0) moved.2 in
      needs-here code n at location moved.0 read.0 inside read.1 moved.1 (not-false (is_beyond code.address moved.0) parts.0) parts.1

  -- and remembers no row where none of the list needs room
  pub turn-forgets : (n at location : ℕ) (rows : TableRows) (cursor : RowCursor) (after : TableRows) (needed : Bool)
      → IsIn code n at → turn limits code at location rows ≡ Ok (Some cursor, after)
      → (one_needs_room code n at location ≡ true → needed ≡ true)
      → needed ≡ false → rows.remembered ≡ [] → after.remembered ≡ []
  turn-forgets n at location rows cursor after needed inside is needs none bare =
      let step = goes at location rows cursor after is in
      let here = needless (needs_room step.instruction) needed (λ room. needs (needs-here code n at location cursor.location
      (step.instruction, cursor.next) inside step.reads step.moves step.near room)) none in
      none-stays limits step.instruction rows after here bare step.does
