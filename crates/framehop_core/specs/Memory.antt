-- A stack memory, and what it means that a callback reads it.
use Rattle.std.specs.Prelude.{◌≡◌, ℕ, ◌^◌, ◌<◌, ◌/◌, Bool, true, IsTrue, ⊤, List, [], ◌∷◌, slice_get, Option, Some, None, Result, Ok, Err}
use Rattle.std.specs.Fn.{Mut, Called}

-- A stack memory: a partial map from addresses to words. Both have 64 bits, and no other address is ever read.
abbrev pub Memory : Type 0
Memory = ℕ → Option ℕ

-- what a callback replies that finds this word, or none
abbrev pub reply : Option ℕ → Result ℕ (Unit {0})
reply (Some word) = Ok word
reply None = Err tt

-- The callback answers as the memory as long as it is kept: through any sequence of calls, from the state it is in, a call
-- after which it is kept began where it was kept, and gave, at an address of 64 bits, the word that the memory has there,
-- and `Err(())` where it has none.
module _ {F : Type 0} (calls : Mut F (ℕ × Unit {0}) (Result ℕ (Unit {0}))) (kept : F → Bool) (memory : Memory) where
  abbrev pub RepliesWhile : F → List (ℕ × Unit {0}) → Type 0
  RepliesWhile callback [] = ⊤
  RepliesWhile callback (arguments ∷ more) = (result : Result ℕ (Unit {0})) (after : F) → Called calls callback arguments result after
      → (IsTrue (kept after) → IsTrue (kept callback) × (arguments.0 < 2 ^ 64 → result ≡ reply (memory arguments.0)))
      × RepliesWhile after more

  pub record AnswersWhile (callback : F) : Type 0 where
    pub replies : (arguments : List (ℕ × Unit {0})) → RepliesWhile callback arguments

-- The callback answers as the memory, whatever is called.
abbrev pub AnswersAs : {F : Type 0} → Mut F (ℕ × Unit {0}) (Result ℕ (Unit {0})) → F → Memory → Type 0
AnswersAs calls callback memory = AnswersWhile calls (λ _. true) memory callback

-- What a function promises of the callback that it is handed: over each memory as which the callback answered before,
-- as long as it is kept, it answers so still, and where it is kept, it was kept before, and the function has done what
-- `Holds` says of that memory.
abbrev pub Answering : {F : Type 0} → Mut F (ℕ × Unit {0}) (Result ℕ (Unit {0})) → F → F → (Memory → Type 0) → Type 0
Answering {F} calls old new Holds = (memory : Memory) (kept : F → Bool) → AnswersWhile calls kept memory old
    → AnswersWhile calls kept memory new × (IsTrue (kept new) → IsTrue (kept old) × Holds memory)

-- the memory of a stack slice from address 0 on, each of whose words has eight addresses
abbrev pub memory_of_words : List ℕ → Memory
memory_of_words words address = slice_get words (address / 8)
