-- A callback that answers as one memory, whatever it notes.
use Rattle.std.proofs.Common.{◌≡◌, ◌≢◌, ◌⊎◌, inl, inr, ℕ, Option, None, IfSome, Result, Ok, Err, refl, sym, ap, ◌∙◌}
use Rattle.std.specs.Fn.{Mut, Called}
use Rattle.framehop.specs.Memory.{Memory, Answering, reply}
use Rattle.framehop_core.specs.Outcome.{Outcome, answered, root, refused, answer_of}
use Rattle.framehop_core.specs.declared.error.Error.{Error}
use Rattle.framehop_core.specs.declared.error.Error.TheVariants.{CouldNotReadStack, FramepointerUnwindingMovedBackwards, DidNotAdvance, IntegerOverflow, ReturnAddressIsNull, OutOfMemory}
use Rattle.framehop_core.proofs.Callback.{AnswersAs-kept, Answering-over}
use Rattle.framehop_lent.specs.Window.{unreadable_word}

module _ {Known Noted : Type 0} (calls : Mut (Known × Noted) (ℕ × Unit {0}) (Result ℕ (Unit {0}))) {old new : Known × Noted} {Holds : Memory → Type 0} (done : Answering calls old new Holds) (memory : Memory) where
  pub over-kept : ((f : Known × Noted) (a : ℕ × Unit {0}) (r : Result ℕ (Unit {0})) (f' : Known × Noted) → f.0 ≡ old.0 → Called calls f a r f' → (r ≡ reply (memory a.0)) × (f'.0 ≡ old.0)) → Holds memory
  over-kept each =
      (Answering-over calls done memory (AnswersAs-kept calls memory (λ f. f.0 ≡ old.0)
      (λ f a r f' same call. let now = each f a r f' same call in ((λ _. now.0), now.1)) old refl)).1

-- the outcome of a refusal
refused-by : {Regs : Type 0} (outcome : Outcome Regs) (error : Error) → Err error ≡ answer_of outcome → outcome ≡ refused error
refused-by (answered address new) error is = cc
refused-by root error is = cc
refused-by (refused other) error is = let same : other ≡ error = cc in ap refused same

-- the word for which a step is refused, if memory has not run out
module _ {Regs : Type 0} (May : Type 0) (outcome : Outcome Regs) (word : Option ℕ) where
  pub wanted-some : (answer : Result (Option ℕ) Error) → word ≡ unreadable_word answer → (answer ≢ Err OutOfMemory → answer ≡ answer_of outcome) → IfSome word (λ address. outcome ≡ refused (CouldNotReadStack address))
  wanted-some (Err (CouldNotReadStack address)) is done = rw is (refused-by outcome (CouldNotReadStack address) (done (λ out. cc)))
  wanted-some (Ok found) is done = rw is tt
  wanted-some (Err FramepointerUnwindingMovedBackwards) is done = rw is tt
  wanted-some (Err DidNotAdvance) is done = rw is tt
  wanted-some (Err IntegerOverflow) is done = rw is tt
  wanted-some (Err ReturnAddressIsNull) is done = rw is tt
  wanted-some (Err OutOfMemory) is done = rw is tt

  pub wanted-none : (answer : Result (Option ℕ) Error) → word ≡ unreadable_word answer → (answer ≢ Err OutOfMemory → answer ≡ answer_of outcome) → (answer ≡ Err OutOfMemory → May) → word ≡ None → (unreadable_word (answer_of outcome) ≡ None) ⊎ May
  wanted-none (Err OutOfMemory) is done may none = inr (may refl)
  wanted-none (Ok found) is done may none = inl (ap unreadable_word (sym (done (λ out. cc))) ∙ sym is ∙ none)
  wanted-none (Err (CouldNotReadStack address)) is done may none = inl (ap unreadable_word (sym (done (λ out. cc))) ∙ sym is ∙ none)
  wanted-none (Err FramepointerUnwindingMovedBackwards) is done may none = inl (ap unreadable_word (sym (done (λ out. cc))) ∙ sym is ∙ none)
  wanted-none (Err DidNotAdvance) is done may none = inl (ap unreadable_word (sym (done (λ out. cc))) ∙ sym is ∙ none)
  wanted-none (Err IntegerOverflow) is done may none = inl (ap unreadable_word (sym (done (λ out. cc))) ∙ sym is ∙ none)
  wanted-none (Err ReturnAddressIsNull) is done may none = inl (ap unreadable_word (sym (done (λ out. cc))) ∙ sym is ∙ none)
