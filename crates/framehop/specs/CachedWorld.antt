-- What a list of commands answers over caches, with the counts of their lookups: the world's replies, and those of
-- `Stats`.
use Rattle.std.specs.Prelude.{ℕ, if◌then◌else◌, ◌+◌, ◌-◌, ◌^◌, List, [], ◌∷◌, ◌++◌, map, length, slice_set, slice_index_or, Option, Some, None, Result, Ok, Err, replicate}
use Rattle.framehop_core.specs.Memory.{Memory}
use Rattle.framehop_core.specs.Outcome.{Outcome, answer_of, registers_after}
use Rattle.framehop_core.specs.CodeAddress.{FrameLocation, location_of}
use Rattle.framehop_cache.specs.Cache.{CacheView, empty_cache}
use Rattle.framehop.specs.Modules.{UnwinderView, with_module, has_start, without_module}
use Rattle.framehop.specs.Unwinding.{Unwinding}
use Rattle.framehop.specs.Fresh.{step}
use Rattle.framehop.specs.Soundness.{cache_after}
use Rattle.framehop.specs.Walk.{walk_from, cache_after_walk}
use Rattle.framehop.specs.World.{World, WorldReply, made, done, stepped, walked, memory_of, refusal_of, unless_refused, world_after}
use Rattle.framehop_cache.specs.declared.rule_cache.CacheStats.{CacheStats}
use Rattle.framehop.specs.declared.session.commands.Command.{Command}
use Rattle.framehop.specs.declared.session.commands.Command.TheVariants.{New, Clone, Add, Remove, Step as StepCommand, Walk as WalkCommand, Stats}
use Rattle.framehop.specs.declared.session.commands.SessionError.{SessionError}

-- unwinders with their generations, the next generation, and caches
pub record CachedWorld (R : Type 0) : Type 0 where
  pub unwinders : List UnwinderView
  pub next : ℕ
  pub caches : List (CacheView R)

-- the same without caches and generation numbers
abbrev pub world_of : {R : Type 0} → CachedWorld R → World
world_of state =
    record { unwinders = map (λ (u : UnwinderView). u.modules) state.unwinders; left = (2 ^ 64 - 1) - state.next }

-- a reply: the world's, or the counts of a cache
pub data CachedReply (Regs : Type 0) : Type 0 where
  of_world : WorldReply Regs → CachedReply Regs
  counts : CacheStats → CachedReply Regs

-- the unwinder and the cache of a number
abbrev pub unwinder_at : {R : Type 0} → CachedWorld R → ℕ → UnwinderView
unwinder_at state unwinder = slice_index_or state.unwinders unwinder (record { modules = []; generation = 0 })

abbrev pub cache_at : {R : Type 0} → CachedWorld R → ℕ → CacheView R
cache_at state cache = slice_index_or state.caches cache empty_cache

-- the step of an unwinder over a memory
abbrev pub step_of : {R Regs : Type 0} → Unwinding R Regs → UnwinderView → Memory → FrameLocation → Regs → Outcome Regs
step_of unwinding unwinder memory location regs = step unwinding unwinder.modules location regs memory

-- the reply to a command that is not refused
abbrev pub cached_reply : {D R Regs : Type 0} → Unwinding R Regs → CachedWorld R → Command D Regs → CachedReply Regs
cached_reply unwinding state New = of_world (made (length state.unwinders))
cached_reply unwinding state (Add unwinder added) = of_world done
cached_reply unwinding state (Clone unwinder) = of_world (made (length state.unwinders))
cached_reply unwinding state (Remove unwinder start) = of_world done
cached_reply unwinding state (StepCommand unwinder cache address regs memory) =
    let stepping = step_of unwinding (unwinder_at state unwinder) (memory_of memory) (location_of address) regs in
    of_world (stepped (answer_of stepping) (registers_after regs stepping))
cached_reply unwinding state (WalkCommand unwinder cache pc regs memory limit) =
    of_world (walked (walk_from (step_of unwinding (unwinder_at state unwinder) (memory_of memory)) limit pc regs))
cached_reply unwinding state (Stats cache) = counts (cache_at state cache).stats

-- the state after it: a step and a walk look up each frame in their cache, and a clone has its original's generation
abbrev pub cached_after : {D R Regs : Type 0} → Unwinding R Regs → CachedWorld R → Command D Regs → CachedWorld R
cached_after unwinding state New =
    record state {
      unwinders = state.unwinders ++ (record { modules = []; generation = state.next })
          ∷ [];
      next = state.next + 1;
    }
cached_after unwinding state (Add unwinder added) =
    record state {
      unwinders = slice_set state.unwinders unwinder (record {
        modules = with_module added (unwinder_at state unwinder).modules;
        generation = state.next;
      });
      next = state.next + 1;
    }
cached_after unwinding state (Clone unwinder) =
    record state { unwinders = state.unwinders ++ unwinder_at state unwinder ∷ [] }
cached_after unwinding state (Remove unwinder start) =
    if has_start start (unwinder_at state unwinder).modules then record state {
      unwinders = slice_set state.unwinders unwinder (record {
        modules = without_module start (unwinder_at state unwinder).modules;
        generation = state.next;
      });
      next = state.next + 1;
    }
    else state
cached_after unwinding state (StepCommand unwinder cache address regs memory) =
    record state {
      caches = slice_set state.caches cache (cache_after unwinding (unwinder_at state unwinder)
          (cache_at state cache) (location_of address));
    }
cached_after unwinding state (WalkCommand unwinder cache pc regs memory limit) =
    let walker = unwinder_at state unwinder in
    record state {
      caches = slice_set state.caches cache
          (cache_after_walk (step_of unwinding walker (memory_of memory))
          (cache_after unwinding walker) limit pc regs (cache_at state cache));
    }
cached_after unwinding state (Stats cache) = state

-- a reply before the others
abbrev pub reply_then : {Regs : Type 0} → CachedReply Regs → Result (List (CachedReply Regs)) SessionError
    → Result (List (CachedReply Regs)) SessionError
reply_then reply (Ok replies) = Ok (reply ∷ replies)
reply_then reply (Err error) = Err error

-- the replies to a list of commands, or the refusal of the first command that is refused
unfoldable pub cached_replies : {D R Regs : Type 0} → Unwinding R Regs → CachedWorld R → List (Command D Regs)
    → Result (List (CachedReply Regs)) SessionError
cached_replies unwinding state [] = Ok []
cached_replies unwinding state (command ∷ commands) =
    unless_refused (refusal_of (length state.caches) (world_of state) command)
    (reply_then (cached_reply unwinding state command) (cached_replies unwinding
    (cached_after unwinding state command) commands))

-- the next generation when all commands, or those before the first that is refused, are done
abbrev pub next_unless : Option SessionError → ℕ → ℕ → ℕ
next_unless (Some error) next later = next
next_unless None next later = later

unfoldable pub next_after_all : {D R Regs : Type 0} → Unwinding R Regs → CachedWorld R → List (Command D Regs) → ℕ
next_after_all unwinding state [] = state.next
next_after_all unwinding state (command ∷ commands) =
    next_unless (refusal_of (length state.caches) (world_of state) command) state.next
    (next_after_all unwinding (cached_after unwinding state command) commands)

-- so many empty caches, no unwinder, and the next generation
abbrev pub empty_cached_world : {R : Type 0} → ℕ → ℕ → CachedWorld R
empty_cached_world caches next = record { unwinders = []; next = next; caches = replicate caches empty_cache }

-- the replies without those of `Stats`
abbrev pub world_part : {Regs : Type 0} → CachedReply Regs → List (WorldReply Regs) → List (WorldReply Regs)
world_part (of_world reply) replies = reply ∷ replies
world_part (counts _) replies = replies

unfoldable pub without_counts : {Regs : Type 0} → List (CachedReply Regs) → List (WorldReply Regs)
without_counts [] = []
without_counts (reply ∷ replies) = world_part reply (without_counts replies)

abbrev pub world_result : {Regs : Type 0} → Result (List (CachedReply Regs)) SessionError
    → Result (List (WorldReply Regs)) SessionError
world_result (Ok replies) = Ok (without_counts replies)
world_result (Err error) = Err error

-- each reply to a list of commands, with its command and the world in which it was given, which begins as this one
unfoldable pub EachReply : {D Regs : Type 0} → (World → Command D Regs → CachedReply Regs → Type 0) → World
    → List (Command D Regs) → List (CachedReply Regs) → Type 0
EachReply Holds world (command ∷ commands) (reply ∷ replies) =
    Holds world command reply × EachReply Holds (world_after world command) commands replies
EachReply Holds world commands replies = Unit {0}
