-- How long a walk can be, where each step after the first one raises the stack pointer.
use Rattle.std.specs.Prelude.{◌≡◌, ℕ, zero, suc, ◌+◌, ◌-◌, ◌≤◌, ◌==◌, ◌⊎◌, true, List, length, MatchBool}
use Rattle.framehop_core.specs.Memory.{Memory}
use Rattle.framehop_core.specs.Outcome.{Outcome, answered, root, refused, registers_after}
use Rattle.framehop_core.specs.CodeAddress.{FrameLocation, at_instruction_pointer, at_return_address, is_first_frame}
use Rattle.framehop.specs.Modules.{ModuleView}
use Rattle.framehop.specs.Unwinding.{Unwinding}
use Rattle.framehop.specs.Fresh.{step}
use Rattle.framehop.specs.Walk.{Walk}
use Rattle.framehop.specs.World.{World, modules_of, memory_of, walked}
use Rattle.framehop.specs.CachedWorld.{CachedReply, of_world}
use Rattle.framehop.specs.declared.session.commands.Command.{Command}
use Rattle.framehop.specs.declared.session.commands.Command.TheVariants.{Walk as WalkCommand}

-- a walk has at most two frames more than the stack pointer has risen since these registers
abbrev pub IsWalkWithinRise : {Regs : Type 0} → (Regs → ℕ) → Regs → Walk Regs → Type 0
IsWalkWithinRise stack_pointer first walk = length walk.frames ≤ 2 + (stack_pointer walk.regs - stack_pointer first)

-- the step at a location is that of a rule
abbrev pub IsRuleStep : {R Regs : Type 0} → Unwinding R Regs → List ModuleView → Memory → FrameLocation → Regs → Type 0
IsRuleStep {R} unwinding modules memory location regs =
    (rule : R) × (step unwinding modules location regs memory ≡ unwinding.outcome rule
    (is_first_frame location) regs memory)

-- where a step has answered an address: what is said of it, and of the step from the caller's frame
abbrev pub WhereAnswered : {Regs : Type 0} → Type 0 → (FrameLocation → Regs → Type 0) → Outcome Regs → Type 0
WhereAnswered here Next (answered address new) =
    here × MatchBool (address == 0) (Unit {0}) (Next (at_return_address address) new)
WhereAnswered here Next root = Unit {0}
WhereAnswered here Next (refused _) = Unit {0}

-- each answered step of at most so many, the first one at a location, meets a condition
unfoldable pub EachAnswered : {Regs : Type 0} → (FrameLocation → Regs → Outcome Regs)
    → (FrameLocation → Regs → Type 0) → ℕ → FrameLocation → Regs → Type 0
EachAnswered step Holds zero location regs = Unit {0}
EachAnswered step Holds (suc n) location regs =
    WhereAnswered (Holds location regs) (EachAnswered step Holds n) (step location regs)

-- a walk of at most so many frames is one of rules: each of its answered steps is a rule's
abbrev pub IsWalkOfRules : {R Regs : Type 0} → Unwinding R Regs → List ModuleView → Memory → ℕ → ℕ → Regs → Type 0
IsWalkOfRules unwinding modules memory zero pc regs = Unit {0}
IsWalkOfRules unwinding modules memory (suc n) pc regs =
    EachAnswered
    (λ location old. step unwinding modules location old memory)
    (IsRuleStep unwinding modules memory)
    n (at_instruction_pointer pc) regs

-- The reply to a command that walks is within the rise since the walk's first step, where all steps of the architecture
-- rise, or where the walk is one of rules.
abbrev pub IsReplyWithinRise : {D R Regs : Type 0} → Unwinding R Regs → World → Command D Regs → CachedReply Regs
    → Type 0
IsReplyWithinRise unwinding world (WalkCommand unwinder cache pc regs memory limit) (of_world (walked walk)) =
    let modules = modules_of world unwinder in
    let first = step unwinding modules (at_instruction_pointer pc) regs (memory_of memory) in
    (unwinding.always_rises ≡ true) ⊎ IsWalkOfRules unwinding modules (memory_of memory) limit pc regs
    → IsWalkWithinRise unwinding.stack_pointer (registers_after regs first) walk
IsReplyWithinRise unwinding world command reply = Unit {0}
