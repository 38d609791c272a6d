-- Why the caches that unwinders share change no reply.
use Rattle.std.specs.Prelude.{◌≡◌, ◌≢◌, ℕ, ◌+◌, ◌<◌, length, ⊤, Some, None, Result, MatchResult}
use Rattle.framehop_core.specs.CodeAddress.{location_of}
use Rattle.framehop_cache.specs.Cache.{Entry, CacheView}
use Rattle.framehop.specs.Modules.{UnwinderView}
use Rattle.framehop.specs.Unwinding.{Unwinding}
use Rattle.framehop.specs.Soundness.{Among, Stands, IsSound, AreApart, MayRunOut}
use Rattle.framehop.specs.World.{refusal_of}
use Rattle.framehop.specs.CachedWorld.{CachedWorld, world_of, unwinder_at, cache_at, cached_reply, cached_after}
use Rattle.framehop.specs.SessionView.{reply_view}
use Rattle.framehop.specs.declared.session.commands.Command.{Command}
use Rattle.framehop.specs.declared.session.commands.Command.TheVariants.{New, Clone, Add, Remove, Step as StepCommand, Walk as WalkCommand, Stats}
use Rattle.framehop.specs.declared.session.commands.Reply.{Reply}
use Rattle.framehop.specs.declared.session.commands.SessionError.{SessionError}
use Rattle.framehop.specs.declared.session.commands.SessionError.TheVariants.{OutOfMemory}

-- Each cache is sound for each unwinder; unwinders of equal generation have equal modules; and each generation in
-- use, of an unwinder or a stored rule, was drawn from the counter.
pub record IsTransparent {R Regs : Type 0} (unwinding : Unwinding R Regs) (state : CachedWorld R) : Type 0 where
  pub sound : (u : UnwinderView) (c : CacheView R) → Among u state.unwinders → Among c state.caches
      → IsSound unwinding u c.sets
  pub apart : (u v : UnwinderView) → Among u state.unwinders → Among v state.unwinders → AreApart u v
  pub drawn : (u : UnwinderView) → Among u state.unwinders → u.generation < state.next
  pub stored : (c : CacheView R) (entry : Entry R) → Among c state.caches → Stands entry c.sets
      → entry.key.generation < state.next

-- the commands that can run out of memory: a list grows, or a step can
abbrev pub CommandMayRunOut : {D R Regs : Type 0} → Unwinding R Regs → CachedWorld R → Command D Regs → Type 0
CommandMayRunOut unwinding state New = ⊤
CommandMayRunOut unwinding state (Clone unwinder) = ⊤
CommandMayRunOut unwinding state (Add unwinder added) = ⊤
CommandMayRunOut unwinding state (Remove unwinder start) = ⊥
CommandMayRunOut unwinding state (StepCommand unwinder cache address regs memory) =
    MayRunOut unwinding (unwinder_at state unwinder) (cache_at state cache) (location_of address)
CommandMayRunOut unwinding state (WalkCommand unwinder cache pc regs memory limit) = ⊤
CommandMayRunOut unwinding state (Stats cache) = ⊥

-- the next generation after a command that ran out of memory: only a new unwinder has drawn one by then
abbrev pub next_after_running_out : {D Regs : Type 0} → Command D Regs → ℕ → ℕ
next_after_running_out New next = next + 1
next_after_running_out command next = next

-- a command ran out of memory that is not refused for another reason
pub record RunsOut {D R Regs : Type 0} (unwinding : Unwinding R Regs) (state : CachedWorld R)
    (command : Command D Regs) (new : CachedWorld R) : Type 0 where
  pub allowed : refusal_of (length state.caches) (world_of state) command ≡ None
  pub may : CommandMayRunOut unwinding state command
  pub next : new.next ≡ next_after_running_out command state.next

-- a command is carried out, or it is refused as the world says and draws no generation, or it runs out of memory
abbrev pub Serves : {D R Regs : Type 0} → Unwinding R Regs → CachedWorld R → Command D Regs
    → Result (Reply Regs) SessionError → CachedWorld R → Type 0
Serves unwinding state command result new =
    MatchResult result
    (λ reply. (refusal_of (length state.caches) (world_of state) command ≡ None)
    × (reply_view reply ≡ cached_reply unwinding state command)
    × (new ≡ cached_after unwinding state command))
    (λ error. (error ≢ OutOfMemory → (refusal_of (length state.caches) (world_of state) command ≡ Some error)
    × (new.next ≡ state.next))
    × (error ≡ OutOfMemory → RunsOut unwinding state command new))
