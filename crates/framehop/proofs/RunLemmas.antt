-- A session, one command at a time.
use Rattle.std.proofs.Common.{◌≡◌, List, [], ◌∷◌, ◌++◌, Some, None, Result, Ok, Err, refl, sym, ap, ◌∙◌, append_assoc, length}
use Rattle.std.proofs.lemmas.List.{append-nil}
use Rattle.framehop.specs.Unwinding.{Unwinding}
use Rattle.framehop.specs.World.{refusal_of, unless_refused}
use Rattle.framehop.specs.CachedWorld.{CachedWorld, CachedReply, world_of, cached_reply, cached_after, reply_then, cached_replies, next_unless, next_after_all}
use Rattle.framehop.specs.declared.session.commands.Command.{Command}
use Rattle.framehop.specs.declared.session.commands.SessionError.{SessionError}

-- the replies so far before the others
abbrev pub replies_before : {Regs : Type 0} → List (CachedReply Regs) → Result (List (CachedReply Regs)) SessionError → Result (List (CachedReply Regs)) SessionError
replies_before front (Ok replies) = Ok (front ++ replies)
replies_before front (Err error) = Err error

before-then : {Regs : Type 0} (front : List (CachedReply Regs)) (reply : CachedReply Regs) (rest : Result (List (CachedReply Regs)) SessionError) → replies_before front (reply_then reply rest) ≡ replies_before (front ++ reply ∷ []) rest
before-then front reply (Ok replies) = ap (λ all. Ok all) (sym (append_assoc front (reply ∷ []) replies))
before-then front reply (Err error) = refl

module _ {D R Regs : Type 0} (unwinding : Unwinding R Regs) where
  -- the state, what is left to do, and the replies so far give the replies to all
  pub record Continues (state start : CachedWorld R) (front : List (CachedReply Regs)) (rest all : List (Command D Regs)) : Type 0 where
    pub replies : replies_before front (cached_replies unwinding state rest) ≡ cached_replies unwinding start all
    pub next : next_after_all unwinding state rest ≡ next_after_all unwinding start all

  pub Continues-start : (start : CachedWorld R) (all : List (Command D Regs)) → Continues start start [] all all
  Continues-start start all = record { replies = nothing-before (cached_replies unwinding start all); next = refl }
    where
      nothing-before : (replies : Result (List (CachedReply Regs)) SessionError) → replies_before [] replies ≡ replies
      nothing-before (Ok replies) = refl
      nothing-before (Err error) = refl

  module _ (state start : CachedWorld R) (front : List (CachedReply Regs)) (command : Command D Regs) (rest all : List (Command D Regs)) (old : Continues state start front (command ∷ rest) all) where
    -- a command that is carried out
    pub Continues-served : (new : CachedWorld R) (reply : CachedReply Regs) → refusal_of (length state.caches) (world_of state) command ≡ None → reply ≡ cached_reply unwinding state command → new ≡ cached_after unwinding state command → Continues new start (front ++ reply ∷ []) rest all
    unfolding cached_replies next_after_all
    Continues-served new reply allowed is_reply is_room = record {
      replies =
          sym (before-then front reply (cached_replies unwinding new rest))
          ∙ ap (λ r. replies_before front (reply_then r (cached_replies unwinding new rest))) is_reply
          ∙ ap (λ n. replies_before front (reply_then (cached_reply unwinding state command) (cached_replies unwinding n rest))) is_room
          ∙ ap (λ o. replies_before front (unless_refused o (reply_then (cached_reply unwinding state command) (cached_replies unwinding (cached_after unwinding state command) rest)))) (sym allowed)
          ∙ old.replies;
      next =
          ap (λ n. next_after_all unwinding n rest) is_room
          ∙ ap (λ o. next_unless o state.next (next_after_all unwinding (cached_after unwinding state command) rest)) (sym allowed)
          ∙ old.next;
    }

    -- a command that is refused
    pub refused-all : (error : SessionError) → refusal_of (length state.caches) (world_of state) command ≡ Some error → (◌≡◌ {A = Result (List (CachedReply Regs)) SessionError} (Err error) (cached_replies unwinding start all)) × (state.next ≡ next_after_all unwinding start all)
    unfolding cached_replies next_after_all
    refused-all error refused = (
      ap (λ o. replies_before front (unless_refused o (reply_then (cached_reply unwinding state command) (cached_replies unwinding (cached_after unwinding state command) rest)))) (sym refused) ∙ old.replies,
      ap (λ o. next_unless o state.next (next_after_all unwinding (cached_after unwinding state command) rest)) (sym refused) ∙ old.next,
    )

  -- the end of the list
  pub done-all : (state start : CachedWorld R) (front : List (CachedReply Regs)) (rest all : List (Command D Regs)) → rest ≡ [] → Continues state start front rest all → (◌≡◌ {A = Result (List (CachedReply Regs)) SessionError} (Ok front) (cached_replies unwinding start all)) × (state.next ≡ next_after_all unwinding start all)
  unfolding cached_replies next_after_all
  done-all state start front rest all none old = (
    ap (λ replies. Ok replies) (sym (append-nil front)) ∙ ap (λ cs. replies_before front (cached_replies unwinding state cs)) (sym none) ∙ old.replies,
    ap (next_after_all unwinding state) (sym none) ∙ old.next,
  )
