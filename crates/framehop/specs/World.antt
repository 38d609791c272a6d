-- The replies to a list of commands where no cache is there to be seen. The state is the modules of each unwinder, from
-- the lowest start to the highest, and the number of generations that can still be drawn.
use Rattle.std.specs.Prelude.{ℕ, ◌-◌, ◌^◌, if◌then◌else◌, ◌==◌, nat_le, nat_lt, ◌&&◌, ◌/◌, ◌%◌, List, [], ◌∷◌, ◌++◌, length, slice_get, slice_set, slice_index_or, Option, Some, None, Result, Ok, Err}
use Rattle.framehop_core.specs.Memory.{Memory}
use Rattle.framehop_core.specs.Outcome.{Outcome, answer_of, registers_after}
use Rattle.framehop_core.specs.CodeAddress.{FrameLocation, location_of}
use Rattle.framehop.specs.Modules.{ModuleView, with_module, has_start, without_module}
use Rattle.framehop.specs.Walk.{Walk, walk_from}
use Rattle.framehop_core.specs.declared.error.Error.{Error}
use Rattle.framehop.specs.declared.session.commands.Memory.{Memory as StackWords}
use Rattle.framehop.specs.declared.session.commands.Command.{Command}
use Rattle.framehop.specs.declared.session.commands.Command.TheVariants.{New, Clone, Add, Remove, Step as StepCommand, Walk as WalkCommand, Stats}
use Rattle.framehop.specs.declared.session.commands.SessionError.{SessionError}
use Rattle.framehop.specs.declared.session.commands.SessionError.TheVariants.{NoSuchUnwinder, NoSuchCache, GenerationsExhausted}

-- the modules of each unwinder, and how many generations are left
pub record World : Type 0 where
  pub unwinders : List (List ModuleView)
  pub left : ℕ

-- a reply of the world
pub data WorldReply (Regs : Type 0) : Type 0 where
  made : ℕ → WorldReply Regs
  done : WorldReply Regs
  stepped : Result (Option ℕ) Error → Regs → WorldReply Regs
  walked : Walk Regs → WorldReply Regs

-- the memory of words of eight bytes from a base on
abbrev pub memory_of : StackWords → Memory
memory_of stack address =
    if nat_le stack.base address && ((address - stack.base) % 8 == 0)
    then slice_get stack.words.items ((address - stack.base) / 8)
    else None

-- the refusal of a command that names an unwinder, else another one
abbrev pub needs_unwinder : World → ℕ → Option SessionError → Option SessionError
needs_unwinder world unwinder other = if nat_lt unwinder (length world.unwinders) then other else Some NoSuchUnwinder

-- the same of a cache, and of a generation
abbrev pub needs_cache : ℕ → ℕ → Option SessionError → Option SessionError
needs_cache caches cache other = if nat_lt cache caches then other else Some NoSuchCache

abbrev pub needs_generation : World → Option SessionError
needs_generation world = if world.left == 0 then Some GenerationsExhausted else None

-- the modules of an unwinder
abbrev pub modules_of : World → ℕ → List ModuleView
modules_of world unwinder = slice_index_or world.unwinders unwinder []

-- why a command is refused, if it is: the number of an unwinder is tested first, then that of a cache, then all else
abbrev pub refusal_of : {D Regs : Type 0} → ℕ → World → Command D Regs → Option SessionError
refusal_of caches world New = needs_generation world
refusal_of caches world (Add unwinder added) = needs_unwinder world unwinder (needs_generation world)
refusal_of caches world (Clone unwinder) = needs_unwinder world unwinder None
refusal_of caches world (Remove unwinder start) =
    needs_unwinder world unwinder (if has_start start (modules_of world unwinder) then needs_generation world else None)
refusal_of caches world (StepCommand unwinder cache address regs memory) =
    needs_unwinder world unwinder (needs_cache caches cache None)
refusal_of caches world (WalkCommand unwinder cache pc regs memory limit) =
    needs_unwinder world unwinder (needs_cache caches cache None)
refusal_of caches world (Stats cache) = needs_cache caches cache None

-- one step by a list of modules, at a location, over registers and memory
abbrev pub StepBy : Type 0 → Type 0
StepBy Regs = List ModuleView → FrameLocation → Regs → Memory → Outcome Regs

-- the reply to a command that is not refused; `Stats` has none, since the world knows no cache
abbrev pub reply_to : {D Regs : Type 0} → StepBy Regs → World → Command D Regs → Option (WorldReply Regs)
reply_to step world New = Some (made (length world.unwinders))
reply_to step world (Clone unwinder) = Some (made (length world.unwinders))
reply_to step world (Add unwinder added) = Some done
reply_to step world (Remove unwinder start) = Some done
reply_to step world (StepCommand unwinder cache address regs memory) =
    let outcome = step (modules_of world unwinder) (location_of address) regs (memory_of memory) in
    Some (stepped (answer_of outcome) (registers_after regs outcome))
reply_to step world (WalkCommand unwinder cache pc regs memory limit) =
    Some (walked (walk_from (λ location old. step (modules_of world unwinder) location old
    (memory_of memory)) limit pc regs))
reply_to step world (Stats cache) = None

-- the world after it
abbrev pub world_after : {D Regs : Type 0} → World → Command D Regs → World
world_after world New = record { unwinders = world.unwinders ++ [] ∷ []; left = world.left - 1 }
world_after world (Add unwinder added) =
    record {
      unwinders = slice_set world.unwinders unwinder (with_module added
          (modules_of world unwinder));
      left = world.left - 1;
    }
world_after world (Clone unwinder) = record world { unwinders = world.unwinders ++ modules_of world unwinder ∷ [] }
world_after world (Remove unwinder start) =
    if has_start start (modules_of world unwinder) then record {
      unwinders = slice_set world.unwinders unwinder (without_module start (modules_of world unwinder));
      left = world.left - 1;
    }
    else world
world_after world (StepCommand unwinder cache address regs memory) = world
world_after world (WalkCommand unwinder cache pc regs memory limit) = world
world_after world (Stats cache) = world

-- a reply, where there is one, before the others
abbrev pub reply_before : {Regs : Type 0} → Option (WorldReply Regs) → Result (List (WorldReply Regs)) SessionError
    → Result (List (WorldReply Regs)) SessionError
reply_before (Some reply) (Ok replies) = Ok (reply ∷ replies)
reply_before (Some reply) (Err error) = Err error
reply_before None replies = replies

-- the refusal, or else the replies
abbrev pub unless_refused : {A : Type 0} → Option SessionError → Result A SessionError → Result A SessionError
unless_refused (Some error) replies = Err error
unless_refused None replies = replies

-- the replies to a list of commands, or the refusal of the first command that is refused
unfoldable pub world_replies : {D Regs : Type 0} → StepBy Regs → ℕ → World → List (Command D Regs)
    → Result (List (WorldReply Regs)) SessionError
world_replies step caches world [] = Ok []
world_replies step caches world (command ∷ commands) =
    unless_refused (refusal_of caches world command)
    (reply_before (reply_to step world command) (world_replies step caches (world_after world command) commands))

-- the world with no unwinder, before the counter has given out this generation
abbrev pub empty_world : ℕ → World
empty_world next = record { unwinders = []; left = (2 ^ 64 - 1) - next }
