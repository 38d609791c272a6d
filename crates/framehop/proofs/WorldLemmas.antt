-- The replies of a state, without the counts of its caches, are those of the world.
use Rattle.std.proofs.Common.{◌≡◌, ℕ, zero, suc, ◌+◌, ◌-◌, ◌^◌, Bool, true, false, cond, List, [], ◌∷◌, ◌++◌, map, length, slice_set, Option, Some, None, Result, Ok, Err, refl, sym, ap, ◌∙◌, arith, length-set}
use Rattle.std.proofs.Math.ListN.{length-replicate}
use Rattle.std.proofs.lemmas.List.{length-map}
use Rattle.framehop_core.specs.Outcome.{answer_of, registers_after}
use Rattle.framehop_core.specs.CodeAddress.{location_of}
use Rattle.framehop_cache.specs.Cache.{empty_cache}
use Rattle.framehop.specs.Modules.{ModuleView, UnwinderView, with_module, has_start, without_module}
use Rattle.framehop.specs.Unwinding.{Unwinding}
use Rattle.framehop.specs.Fresh.{step}
use Rattle.framehop.specs.Walk.{walk_from}
use Rattle.framehop.specs.World.{World, WorldReply, made, done, stepped, walked, memory_of, refusal_of, unless_refused, reply_to, reply_before, world_after, world_replies, empty_world}
use Rattle.framehop.specs.CachedWorld.{CachedWorld, empty_cached_world, CachedReply, of_world, counts, world_of, unwinder_at, cached_reply, cached_after, reply_then, cached_replies, without_counts, world_result}
use Rattle.framehop.specs.declared.session.commands.Command.{Command}
use Rattle.framehop.specs.declared.session.commands.Command.TheVariants.{New, Clone, Add, Remove, Step as StepCommand, Walk as WalkCommand, Stats}
use Rattle.framehop.specs.declared.session.commands.SessionError.{SessionError}
use Rattle.framehop.proofs.CachedWorldLemmas.{modules-at}

map-push : (us : List UnwinderView) (v : UnwinderView) → map (λ (u : UnwinderView). u.modules) (us ++ v ∷ []) ≡ map (λ (u : UnwinderView). u.modules) us ++ v.modules ∷ []
map-push [] v = refl
map-push (u ∷ us) v = ap (λ rest. u.modules ∷ rest) (map-push us v)

map-set : (us : List UnwinderView) (i : ℕ) (v : UnwinderView) → map (λ (u : UnwinderView). u.modules) (slice_set us i v) ≡ slice_set (map (λ (u : UnwinderView). u.modules) us) i v.modules
map-set [] i v = refl
map-set (u ∷ us) zero v = refl
map-set (u ∷ us) (suc i) v = ap (λ rest. u.modules ∷ rest) (map-set us i v)

one-less : (next : ℕ) → (2 ^ 64 - 1) - (next + 1) ≡ (2 ^ 64 - 1) - next - 1
one-less next = omega arith

World-equal : (a b : World) → a.unwinders ≡ b.unwinders → a.left ≡ b.left → a ≡ b
World-equal a b p q = λ i. record { unwinders = p i; left = q i }

module _ {R Regs : Type 0} (unwinding : Unwinding R Regs) where
  removed-after : (state : CachedWorld R) (unwinder start : ℕ) (b : Bool) → world_of (cond b (record state { unwinders = slice_set state.unwinders unwinder (record { modules = without_module start (unwinder_at state unwinder).modules; generation = state.next }); next = state.next + 1 }) state) ≡ cond b (record { unwinders = slice_set (world_of state).unwinders unwinder (without_module start (unwinder_at state unwinder).modules); left = (world_of state).left - 1 }) (world_of state)
  removed-after state unwinder start true =
      World-equal _ _ (map-set state.unwinders unwinder (record { modules = without_module start (unwinder_at state unwinder).modules; generation = state.next })) (one-less state.next)
  removed-after state unwinder start false = refl

  -- the world after a command is that of the state after it
  pub world-after : {D : Type 0} (state : CachedWorld R) (command : Command D Regs) → world_of (cached_after unwinding state command) ≡ world_after (world_of state) command
  world-after state New = World-equal _ _ (map-push state.unwinders (record { modules = []; generation = state.next })) (one-less state.next)
  world-after state (Add unwinder added) =
      World-equal _ _
      (map-set state.unwinders unwinder (record { modules = with_module added (unwinder_at state unwinder).modules; generation = state.next })
      ∙ ap (λ modules. slice_set (world_of state).unwinders unwinder (with_module added modules)) (sym (modules-at state.unwinders unwinder)))
      (one-less state.next)
  world-after state (Clone unwinder) =
      World-equal _ _
      (map-push state.unwinders (unwinder_at state unwinder) ∙ ap (λ modules. (world_of state).unwinders ++ modules ∷ []) (sym (modules-at state.unwinders unwinder)))
      refl
  world-after state (Remove unwinder start) =
      removed-after state unwinder start (has_start start (unwinder_at state unwinder).modules)
      ∙ ap (λ (modules : List ModuleView). cond (has_start start modules) (record { unwinders = slice_set (world_of state).unwinders unwinder (without_module start modules); left = (world_of state).left - 1 }) (world_of state)) (sym (modules-at state.unwinders unwinder))
  world-after state (StepCommand unwinder cache address regs memory) = refl
  world-after state (WalkCommand unwinder cache pc regs memory limit) = refl
  world-after state (Stats cache) = refl

  caches-either : (state other : CachedWorld R) (b : Bool) → length other.caches ≡ length state.caches → length (cond b other state).caches ≡ length state.caches
  caches-either state other true e = e
  caches-either state other false e = refl

  caches-stay : {D : Type 0} (state : CachedWorld R) (command : Command D Regs) → length (cached_after unwinding state command).caches ≡ length state.caches
  caches-stay state New = refl
  caches-stay state (Add unwinder added) = refl
  caches-stay state (Clone unwinder) = refl
  caches-stay state (Remove unwinder start) = caches-either state _ (has_start start (unwinder_at state unwinder).modules) refl
  caches-stay state (StepCommand unwinder cache address regs memory) = length-set _ _ _
  caches-stay state (WalkCommand unwinder cache pc regs memory limit) = length-set _ _ _
  caches-stay state (Stats cache) = refl

  result-made : (n m : ℕ) (rest : Result (List (CachedReply Regs)) SessionError) → n ≡ m → world_result (reply_then (of_world (made n)) rest) ≡ reply_before (Some (made m)) (world_result rest)
  unfolding without_counts
  result-made n m (Ok replies) e = ap (λ k. Ok (made k ∷ without_counts replies)) e
  result-made n m (Err error) e = refl

  result-of_world : (reply : WorldReply Regs) (rest : Result (List (CachedReply Regs)) SessionError) → world_result (reply_then (of_world reply) rest) ≡ reply_before (Some reply) (world_result rest)
  unfolding without_counts
  result-of_world reply (Ok replies) = refl
  result-of_world reply (Err error) = refl

  result-counts : (stats : _) (rest : Result (List (CachedReply Regs)) SessionError) → world_result (reply_then (counts stats) rest) ≡ world_result rest
  unfolding without_counts
  result-counts stats (Ok replies) = refl
  result-counts stats (Err error) = refl

  -- the reply of the world is that of the state
  world-reply : {D : Type 0} (state : CachedWorld R) (command : Command D Regs) (rest : Result (List (CachedReply Regs)) SessionError) → world_result (reply_then (cached_reply unwinding state command) rest) ≡ reply_before (reply_to (step unwinding) (world_of state) command) (world_result rest)
  world-reply state New rest = result-made _ _ rest (sym (length-map state.unwinders (λ (u : UnwinderView). u.modules)))
  world-reply state (Add unwinder added) rest = result-of_world done rest
  world-reply state (Clone unwinder) rest = result-made _ _ rest (sym (length-map state.unwinders (λ (u : UnwinderView). u.modules)))
  world-reply state (Remove unwinder start) rest = result-of_world done rest
  world-reply state (StepCommand unwinder cache address regs memory) rest =
      result-of_world _ rest
      ∙ ap (λ (modules : List ModuleView). let stepping = step unwinding modules (location_of address) regs (memory_of memory) in reply_before (Some (stepped (answer_of stepping) (registers_after regs stepping))) (world_result rest)) (sym (modules-at state.unwinders unwinder))
  world-reply state (WalkCommand unwinder cache pc regs memory limit) rest =
      result-of_world _ rest
      ∙ ap (λ (modules : List ModuleView). reply_before (Some (walked (walk_from (λ location old. step unwinding modules location old (memory_of memory)) limit pc regs))) (world_result rest)) (sym (modules-at state.unwinders unwinder))
  world-reply state (Stats cache) rest = result-counts _ rest

  result-refused : (o : Option SessionError) (rest : Result (List (CachedReply Regs)) SessionError) → world_result (unless_refused o rest) ≡ unless_refused o (world_result rest)
  result-refused (Some error) rest = refl
  result-refused None rest = refl

  -- all replies
  pub world-replies : {D : Type 0} (state : CachedWorld R) (commands : List (Command D Regs)) → world_result (cached_replies unwinding state commands) ≡ world_replies (step unwinding) (length state.caches) (world_of state) commands
  unfolding cached_replies world_replies without_counts
  world-replies state [] = refl
  world-replies state (command ∷ commands) =
      let later = cached_after unwinding state command in
      let rest = world-replies later commands
      ∙ ap (λ n. world_replies (step unwinding) n (world_of later) commands) (caches-stay state command)
      ∙ ap (λ world. world_replies (step unwinding) (length state.caches) world commands) (world-after state command) in
      result-refused (refusal_of (length state.caches) (world_of state) command) _
      ∙ ap (unless_refused (refusal_of (length state.caches) (world_of state) command))
      (world-reply state command _ ∙ ap (reply_before (reply_to (step unwinding) (world_of state) command)) rest)

  -- from so many empty caches and no unwinder
  pub world-replies-start : {D : Type 0} (caches next : ℕ) (commands : List (Command D Regs)) → world_result (cached_replies unwinding (empty_cached_world caches next) commands) ≡ world_replies (step unwinding) caches (empty_world next) commands
  world-replies-start caches next commands =
      world-replies (empty_cached_world caches next) commands
      ∙ ap (λ n. world_replies (step unwinding) n (empty_world next) commands) (length-replicate caches empty_cache)
