-- The lines of the replies that a session tells, or its refusal.
use Rattle.std.proofs.Common.{◌≡◌, ℕ, List, Result, Ok, Err, sym, ap, ◌∙◌}
use Rattle.framehop.specs.CachedWorld.{CachedReply}
use Rattle.framehop.specs.declared.session.SessionError.{SessionError}
use Rattle.framehop_walk.specs.declared.refusal.Refusal.{Refusal}
use Rattle.framehop_walk.specs.declared.refusal.Refusal.TheVariants.{OutOfMemory}
use Rattle.framehop_walk.specs.declared.sharing.Told.{Told}
use Rattle.framehop_walk.specs.Refusals.{Reading, refusal_text, of_session}
use Rattle.framehop_walk.specs.Program.{lines_of, printed}
use Rattle.framehop_walk.specs.Sharing.{tell, told_by}

module _ {Regs : Type 0} (text : Regs → List ℕ) (verbs : List (List ℕ)) (told : List Told) where
  pub printed-told : (shown : List ℕ) (lines replies : List (CachedReply Regs)) (inner outer : Result (List (CachedReply Regs)) SessionError)
      → shown ≡ lines_of text verbs lines → lines ≡ tell told replies → Ok replies ≡ inner → outer ≡ told_by told inner
      → ◌≡◌ {A = Reading (List ℕ)} (Ok shown) (printed text verbs outer)
  printed-told shown lines replies inner outer is_shown is_told is_inner is_outer =
      ap (λ ls. Ok ls) (is_shown ∙ ap (lines_of text verbs) is_told)
      ∙ ap (λ r. printed text verbs (told_by told r)) is_inner
      ∙ ap (printed text verbs) (sym is_outer)

  pub printed-refused : (error : SessionError) (inner outer : Result (List (CachedReply Regs)) SessionError)
      → Err error ≡ inner → outer ≡ told_by told inner
      → ◌≡◌ {A = Reading (List ℕ)} (Err (refusal_text (of_session error))) (printed text verbs outer)
  printed-refused error inner outer is_inner is_outer =
      ap (λ r. printed text verbs (told_by told r)) is_inner ∙ ap (printed text verbs) (sym is_outer)

-- the refusal of what a session gives
pub session_refusal : {A : Type 0} → Result A SessionError → Refusal
session_refusal (Ok value) = OutOfMemory
session_refusal (Err error) = of_session error

pub same-refusal : {A : Type 0} (error other : SessionError) → ◌≡◌ {A = Result A SessionError} (Err error) (Err other) → of_session error ≡ of_session other
unfolding session_refusal
same-refusal error other same = ap session_refusal same
