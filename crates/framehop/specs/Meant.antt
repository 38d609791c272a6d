-- Walks and replies of which each step means its source. A step is told by the location of its frame, the frame's
-- registers, the return address, and the caller's registers.
use Rattle.std.specs.Prelude.{◌≡◌, ℕ, ◌⊎◌, List, [], ◌∷◌, IfOk, IfSome}
use Rattle.framehop_core.specs.Memory.{Memory}
use Rattle.framehop_core.specs.CodeAddress.{FrameLocation, address_of, location_of}
use Rattle.framehop.specs.Modules.{ModuleView}
use Rattle.framehop.specs.Walk.{Walk}
use Rattle.framehop.specs.World.{World, modules_of, memory_of, stepped, walked}
use Rattle.framehop.specs.CachedWorld.{CachedReply, of_world}
use Rattle.framehop.specs.declared.session.commands.Command.{Command}
use Rattle.framehop.specs.declared.session.commands.Command.TheVariants.{Step as StepCommand, Walk as WalkCommand}

-- The callers of a frame: each has registers, the last one the last registers, and each step from a frame to its caller
-- means its source. The last frame has no step, or one to the return address 0.
unfoldable pub AreMeant : {Regs : Type 0} → (FrameLocation → Regs → ℕ → Regs → Type 0) → FrameLocation → Regs
    → List FrameLocation → Regs → Type 0
AreMeant Means location old [] last = (last ≡ old) ⊎ Means location old 0 last
AreMeant {Regs} Means location old (caller ∷ callers) last =
    (new : Regs) × Means location old (address_of caller) new × AreMeant Means caller new callers last

-- the frames of a walk, of which the first has these registers
abbrev pub AreMeantFrom : {Regs : Type 0} → (FrameLocation → Regs → ℕ → Regs → Type 0) → Regs → List FrameLocation
    → Regs → Type 0
AreMeantFrom Means old [] last = last ≡ old
AreMeantFrom Means old (frame ∷ callers) last = AreMeant Means frame old callers last

abbrev pub IsWalkMeant : {Regs : Type 0} → (FrameLocation → Regs → ℕ → Regs → Type 0) → Regs → Walk Regs → Type 0
IsWalkMeant Means old walk = AreMeantFrom Means old walk.frames walk.regs

-- the reply to a command that steps or walks, by what steps mean under a list of modules
abbrev pub IsReplyMeant : {D Regs : Type 0}
    → (List ModuleView → FrameLocation → Regs → Memory → ℕ → Regs → Type 0)
    → World → Command D Regs → CachedReply Regs → Type 0
IsReplyMeant Means world (StepCommand unwinder cache address regs memory) (of_world (stepped result new)) =
    IfOk result (λ answer. IfSome answer (λ return_address.
    Means (modules_of world unwinder) (location_of address) regs (memory_of memory) return_address new))
IsReplyMeant Means world (WalkCommand unwinder cache pc regs memory limit) (of_world (walked walk)) =
    IsWalkMeant
    (λ location old address new. Means (modules_of world unwinder) location old (memory_of memory) address new)
    regs walk
IsReplyMeant Means world command reply = Unit {0}
