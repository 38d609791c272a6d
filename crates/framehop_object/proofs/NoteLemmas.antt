-- Notes that are read one by one, and the list of them.
use Rattle.std.proofs.Common.{◌≡◌, ℕ, zero, suc, ◌-◌, ◌<◌, Bool, true, false, cond, List, [], ◌∷◌, length, drop, Some, None, Option, option_map, refl, ap, ◌∙◌, arith}
use Rattle.std.specs.List.{find}
use Rattle.framehop_object.specs.Elf.Note.{NoteView, note_at, notes_after, notes_in, is_build_id, build_id_of}

-- bytes that belong to a note are passed over
notes_in-skip : (n : ℕ) (bytes : List ℕ) → notes_in n bytes ≡ notes_in 0 (drop n bytes)
unfolding notes_in
notes_in-skip zero [] = refl
notes_in-skip zero (b ∷ bytes) = refl
notes_in-skip (suc n) [] = refl
notes_in-skip (suc n) (b ∷ bytes) = notes_in-skip n bytes

less-one : (n : ℕ) → suc n - 1 ≡ n
less-one n = omega arith

-- a note, and those after it
notes_in-more : (bytes : List ℕ) (note : NoteView) (size : ℕ) → note_at bytes ≡ Some (note, size) → (0 < size) × (0 < length bytes) → notes_in 0 bytes ≡ note ∷ notes_in 0 (drop size bytes)
unfolding notes_in
notes_in-more [] note size e some = absurd (let h = some.1 in omega (arith, h))
notes_in-more (b ∷ bytes) note zero e some = absurd (let h = some.0 in omega (arith, h))
notes_in-more (b ∷ bytes) note (suc n) e some =
    ap (λ read. notes_after read (λ size. notes_in (size - 1) bytes)) e
    ∙ ap (λ m. note ∷ notes_in m bytes) (less-one n)
    ∙ ap (λ rest. note ∷ rest) (notes_in-skip n bytes)

-- no note is left
notes_in-end : (bytes : List ℕ) → note_at bytes ≡ None → notes_in 0 bytes ≡ []
unfolding notes_in
notes_in-end [] e = refl
notes_in-end (b ∷ bytes) e = ap (λ read. notes_after read (λ size. notes_in (size - 1) bytes)) e

-- the build id among notes
abbrev found : List NoteView → Option (List ℕ)
found notes = option_map (λ (note : NoteView). note.descriptor) (find is_build_id notes)

-- the first note is the build id
pub build_id_of-first : (bytes : List ℕ) (note : NoteView) (size : ℕ) → note_at bytes ≡ Some (note, size)
    → (0 < size) × (0 < length bytes) → is_build_id note ≡ true → build_id_of bytes ≡ Some note.descriptor
build_id_of-first bytes note size e some is =
    ap found (notes_in-more bytes note size e some)
    ∙ ap (λ (b : Bool). option_map (λ (n : NoteView). n.descriptor) (cond b (Some note) (find is_build_id (notes_in 0 (drop size bytes))))) is

-- it is not, and the build id is among those after it
pub build_id_of-later : (bytes : List ℕ) (note : NoteView) (size : ℕ) → note_at bytes ≡ Some (note, size)
    → (0 < size) × (0 < length bytes) → is_build_id note ≡ false → build_id_of bytes ≡ build_id_of (drop size bytes)
build_id_of-later bytes note size e some is =
    ap found (notes_in-more bytes note size e some)
    ∙ ap (λ (b : Bool). option_map (λ (n : NoteView). n.descriptor) (cond b (Some note) (find is_build_id (notes_in 0 (drop size bytes))))) is

-- there is no note
pub build_id_of-none : (bytes : List ℕ) → note_at bytes ≡ None → build_id_of bytes ≡ None
build_id_of-none bytes e = ap found (notes_in-end bytes e)
