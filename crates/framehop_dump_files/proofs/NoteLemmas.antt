-- Notes that are read one by one.
use Rattle.std.proofs.Common.{◌≡◌, ℕ, zero, suc, ◌+◌, ◌-◌, ◌<◌, ◌≤◌, Bool, inl, inr, List, [], ◌∷◌, ◌++◌, length, map, drop, Ok, Err, refl, ap, sym, ◌∙◌, arith}
use Rattle.std.specs.Prelude.{option_map, find}
use Rattle.std.proofs.lemmas.Bool.{cases_Bool}
use Rattle.framehop_bytes.specs.Bytes.{◌>>=◌}
use Rattle.framehop_object.specs.declared.elf.program_header.ProgramHeader.{ProgramHeader}
use Rattle.framehop_dump_files.specs.declared.coredump.error.CoreFileError.{CoreFileError}
use Rattle.framehop_dump_files.specs.Coredump.Note.{PlacedView, placed_at, notes_after, notes_in, notes_size, notes_of_segment, notes_among}

-- bytes that belong to a note are passed over
notes_in-skip : (n offset end : ℕ) (bytes : List ℕ) → (n ≤ length bytes → end ≡ offset + n) → notes_in n offset bytes ≡ notes_in 0 end (drop n bytes)
unfolding notes_in
notes_in-skip zero offset end bytes e = ap (λ at. notes_in 0 at bytes) (let h = e (omega arith) in let same : offset ≡ end = omega (arith, h) in same)
notes_in-skip (suc n) offset end [] e = refl
notes_in-skip (suc n) offset end (b ∷ bytes) e =
    notes_in-skip n (offset + 1) end bytes (λ within. let h = e (omega (arith, within)) in omega (arith, h))

less-one : (n : ℕ) → suc n - 1 ≡ n
less-one n = omega arith

-- a note, and those after it
pub notes-more : (offset end : ℕ) (bytes rest : List ℕ) (note : PlacedView) (size : ℕ) → placed_at offset bytes ≡ Ok (note, size) → (0 < size) × (0 < length bytes) → (size ≤ length bytes → end ≡ offset + size) → rest ≡ drop size bytes → notes_in 0 offset bytes ≡ notes_in 0 end rest >>= (λ others. Ok ((note ∷ []) ++ others))
unfolding notes_in
notes-more offset end [] rest note size e some ends is = absurd (let h = some.1 in omega (arith, h))
notes-more offset end (b ∷ bytes) rest note zero e some ends is = absurd (let h = some.0 in omega (arith, h))
notes-more offset end (b ∷ bytes) rest note (suc n) e some ends is =
    ap (λ read. notes_after read (λ size. notes_in (size - 1) (offset + 1) bytes)) e
    ∙ ap (λ m. notes_in m (offset + 1) bytes >>= (λ others. Ok (note ∷ others))) (less-one n)
    ∙ ap (λ r. r >>= (λ others. Ok (note ∷ others))) (notes_in-skip n (offset + 1) end bytes (λ within. let h = ends (omega (arith, within)) in omega (arith, h)))
    ∙ ap (λ left. notes_in 0 end left >>= (λ others. Ok (note ∷ others))) (sym is)

-- the note at the front is refused
pub notes-refused : (offset : ℕ) (bytes : List ℕ) (error : CoreFileError) → placed_at offset bytes ≡ Err error → 0 < length bytes → notes_in 0 offset bytes ≡ Err error
unfolding notes_in
notes-refused offset [] error e some = absurd (omega (arith, some))
notes-refused offset (b ∷ bytes) error e some =
    ap (λ read. notes_after read (λ size. notes_in (size - 1) (offset + 1) bytes)) e

-- no bytes are left
pub notes-none : (offset : ℕ) (bytes : List ℕ) → length bytes ≡ 0 → notes_in 0 offset bytes ≡ Ok []
unfolding notes_in
notes-none offset [] none = refl
notes-none offset (b ∷ bytes) none = absurd (omega (arith, none))

-- a segment, and those after it
module _ (file : List ℕ) (bytes : ℕ) (left segments : List ProgramHeader) (segment : ProgramHeader) (is : left ≡ segment ∷ segments) where
  pub segments-more : (notes : List PlacedView) → notes_of_segment file bytes segment ≡ Ok notes → notes_among file bytes left ≡ notes_among file (bytes - notes_size segment) segments >>= (λ others. Ok (notes ++ others))
  unfolding notes_among
  segments-more notes read =
      ap (notes_among file bytes) is
      ∙ ap (λ r. r >>= (λ first. notes_among file (bytes - notes_size segment) segments >>= (λ others. Ok (first ++ others)))) read

  pub segments-refused : (error : CoreFileError) → notes_of_segment file bytes segment ≡ Err error → notes_among file bytes left ≡ Err error
  unfolding notes_among
  segments-refused error read =
      ap (notes_among file bytes) is
      ∙ ap (λ r. r >>= (λ first. notes_among file (bytes - notes_size segment) segments >>= (λ others. Ok (first ++ others)))) read

pub segments-none : (file : List ℕ) (bytes : ℕ) (left : List ProgramHeader) → left ≡ [] → notes_among file bytes left ≡ Ok []
unfolding notes_among
segments-none file bytes left is = ap (notes_among file bytes) is

-- the first item that passes a test of its view, and the first view that passes it
pub find-viewed : {A B : Type 0} (view : A → B) (test : B → Bool) (items : List A) → option_map view (find (λ item. test (view item)) items) ≡ find test (map view items)
find-viewed view test [] = refl
find-viewed view test (item ∷ items) =
    elim (cases_Bool (test (view item))) [
      | inl holds ↦ rw holds refl
      | inr fails ↦ rw fails (find-viewed view test items)
    ]
