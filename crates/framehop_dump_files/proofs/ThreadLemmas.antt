-- Threads that are read one by one, and the masks among their notes.
use Rattle.std.proofs.Common.{◌≡◌, ℕ, ◌+◌, Bool, true, false, cond, suc, List, [], ◌∷◌, ◌++◌, Some, None, Ok, Err, refl, ap, ◌∙◌, take, if◌then◌else◌, arith}
use Rattle.std.specs.List.{find, before_first, position_or_len}
use Rattle.framehop_bytes.specs.Bytes.{◌>>=◌}
use Rattle.framehop_dump_files.specs.declared.coredump.core_file.Machine.{Machine}
use Rattle.framehop_dump_files.specs.declared.coredump.error.CoreFileError.{CoreFileError}
use Rattle.framehop_dump_files.specs.Coredump.Note.{PlacedView}
use Rattle.framehop_dump_files.specs.Coredump.Thread.{ThreadView, is_thread, note_in, thread_of, threads_of}

take-more : (n : ℕ) (placed : PlacedView) (notes : List PlacedView) → take (1 + n) (placed ∷ notes) ≡ placed ∷ take n notes
take-more n placed notes = ap (λ m. take m (placed ∷ notes)) (let more : 1 + n ≡ suc n = omega arith in more)

before-more : (b : Bool) (placed : PlacedView) (notes : List PlacedView) → is_thread placed ≡ b → before_first is_thread (placed ∷ notes) ≡ (if b then [] else placed ∷ before_first is_thread notes)
before-more true placed notes e = rw e refl
before-more false placed notes e = rw e (take-more (position_or_len is_thread notes) placed notes)

module _ (left notes : List PlacedView) (placed : PlacedView) (is : left ≡ placed ∷ notes) where
  module _ (is_kind : PlacedView → Bool) where
    pub kind-ends : is_thread placed ≡ true → note_in is_kind left ≡ None
    kind-ends next = ap (note_in is_kind) is ∙ ap (find is_kind) (before-more true placed notes next)

    pub kind-first : is_thread placed ≡ false → is_kind placed ≡ true → note_in is_kind left ≡ Some placed
    kind-first next kind =
        ap (note_in is_kind) is ∙ ap (find is_kind) (before-more false placed notes next)
        ∙ ap (λ (b : Bool). cond b (Some placed) (note_in is_kind notes)) kind

    pub kind-later : is_thread placed ≡ false → is_kind placed ≡ false → note_in is_kind left ≡ note_in is_kind notes
    kind-later next kind =
        ap (note_in is_kind) is ∙ ap (find is_kind) (before-more false placed notes next)
        ∙ ap (λ (b : Bool). cond b (Some placed) (note_in is_kind notes)) kind

  module _ (machine : Machine) where
    pub threads-more : (thread : ThreadView) (later : List PlacedView) → notes ≡ later → is_thread placed ≡ true → thread_of machine placed later ≡ Ok thread → threads_of machine left ≡ threads_of machine notes >>= (λ others. Ok ((thread ∷ []) ++ others))
    unfolding threads_of
    threads-more thread later same first read =
        ap (threads_of machine) is
        ∙ ap (λ (b : Bool). if b then thread_of machine placed notes >>= (λ t. threads_of machine notes >>= (λ others. Ok (t ∷ others))) else threads_of machine notes) first
        ∙ ap (λ r. r >>= (λ t. threads_of machine notes >>= (λ others. Ok (t ∷ others)))) (ap (thread_of machine placed) same ∙ read)

    pub threads-refused : (error : CoreFileError) (later : List PlacedView) → notes ≡ later → is_thread placed ≡ true → thread_of machine placed later ≡ Err error → threads_of machine left ≡ Err error
    unfolding threads_of
    threads-refused error later same first read =
        ap (threads_of machine) is
        ∙ ap (λ (b : Bool). if b then thread_of machine placed notes >>= (λ t. threads_of machine notes >>= (λ others. Ok (t ∷ others))) else threads_of machine notes) first
        ∙ ap (λ r. r >>= (λ t. threads_of machine notes >>= (λ others. Ok (t ∷ others)))) (ap (thread_of machine placed) same ∙ read)

    pub threads-later : is_thread placed ≡ false → threads_of machine left ≡ threads_of machine notes
    unfolding threads_of
    threads-later first =
        ap (threads_of machine) is
        ∙ ap (λ (b : Bool). if b then thread_of machine placed notes >>= (λ t. threads_of machine notes >>= (λ others. Ok (t ∷ others))) else threads_of machine notes) first

pub threads-none : (machine : Machine) (left : List PlacedView) → left ≡ [] → threads_of machine left ≡ Ok []
unfolding threads_of
threads-none machine left is = ap (threads_of machine) is
