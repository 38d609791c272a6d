-- A callback that answers as a memory: what one call gives, how functions that call it follow one another, and how a concrete
-- closure is shown to be one.
use Rattle.std.proofs.Common.{◌≡◌, ℕ, ◌^◌, ◌<◌, Bool, true, IsTrue, List, [], ◌∷◌, Result, refl, subst}
use Rattle.std.specs.Fn.{Mut, Called}
use Rattle.framehop_core.specs.Memory.{Memory, AnswersAs, AnswersWhile, RepliesWhile, Answering, reply}

module _ {F : Type 0} (calls : Mut F (ℕ × Unit {0}) (Result ℕ (Unit {0}))) where
  -- one call
  pub Answering-call : {f f' : F} {address : ℕ} {r : Result ℕ (Unit {0})} → address < 2 ^ 64 → Called calls f (address, tt) r f' → Answering calls f f' (λ memory. r ≡ reply (memory address))
  Answering-call {f} {f'} {address} {r} within call = λ memory kept h. (
    record { replies = λ more. (h.replies ((address, tt) ∷ more) r f' call).1 },
    λ now. let one = (h.replies ((address, tt) ∷ []) r f' call).0 now in (one.0, one.1 within),
  )

  -- no call
  pub Answering-uncalled : {f : F} {Holds : Memory → Type 0} → ((memory : Memory) → Holds memory) → Answering calls f f Holds
  Answering-uncalled holds = λ memory kept h. (h, λ now. (now, holds memory))

  -- what holds then holds too
  pub Answering-so : {old new : F} {Holds So : Memory → Type 0} → Answering calls old new Holds → ((memory : Memory) → Holds memory → So memory) → Answering calls old new So
  Answering-so done so = λ memory kept h. let d = done memory kept h in (d.0, λ now. let e = d.1 now in (e.0, so memory e.1))

  -- one function after another
  pub Answering-then : {old between new : F} {First Second So : Memory → Type 0} → Answering calls old between First → Answering calls between new Second
      → ((memory : Memory) → First memory → Second memory → So memory) → Answering calls old new So
  Answering-then first second so = λ memory kept h.
      let d = first memory kept h in
      let e = second memory kept d.0 in
      (e.0, λ now. let after = e.1 now in let before = d.1 after.0 in (before.0, so memory before.1 after.1))

  -- over a memory as which the callback answers, whatever is called
  pub Answering-over : {old new : F} {Holds : Memory → Type 0} → Answering calls old new Holds → (memory : Memory) → AnswersAs calls old memory → AnswersAs calls new memory × Holds memory
  Answering-over done memory h = let d = done memory (λ _. true) h in (d.0, (d.1 refl).1)

module _ {F : Type 0} (calls : Mut F (ℕ × Unit {0}) (Result ℕ (Unit {0}))) (memory : Memory) where
  -- a fact that each call preserves, and under which a call that is kept gives what the memory has
  module _ (kept : F → Bool) (I : F → Type 0) (gives : (f : F) (a : ℕ × Unit {0}) (r : Result ℕ (Unit {0})) (f' : F) → I f → Called calls f a r f' → (IsTrue (kept f') → IsTrue (kept f) × (a.0 < 2 ^ 64 → r ≡ reply (memory a.0))) × I f') where
    each-while : (xs : List (ℕ × Unit {0})) (f : F) → I f → RepliesWhile calls kept memory f xs
    each-while [] f i = tt
    each-while (a ∷ xs) f i = λ r f' call. ((gives f a r f' i call).0, each-while xs f' (gives f a r f' i call).1)

    pub AnswersWhile-kept : (f : F) → I f → AnswersWhile calls kept memory f
    AnswersWhile-kept f i = record { replies = λ xs. each-while xs f i }

  -- a fact that each call keeps, and under which each call gives what the memory has
  pub AnswersAs-kept : (I : F → Type 0) → ((f : F) (a : ℕ × Unit {0}) (r : Result ℕ (Unit {0})) (f' : F) → I f → Called calls f a r f' → (a.0 < 2 ^ 64 → r ≡ reply (memory a.0)) × I f') → (f : F) → I f → AnswersAs calls f memory
  AnswersAs-kept I gives = AnswersWhile-kept (λ _. true) I (λ f a r f' i call. let one = gives f a r f' i call in ((λ _. (refl, one.0)), one.1))

  -- a callback that each call leaves as it was
  pub AnswersAs-unchanged : (f : F) → ((a : ℕ × Unit {0}) (r : Result ℕ (Unit {0})) (f' : F) → Called calls f a r f' → (a.0 < 2 ^ 64 → r ≡ reply (memory a.0)) × (f' ≡ f)) → AnswersAs calls f memory
  AnswersAs-unchanged f each =
      AnswersAs-kept (λ g. g ≡ f) (λ g a r g' same call. let now = each a r g' (subst (λ h. Called calls h a r g') same call) in now) f refl
