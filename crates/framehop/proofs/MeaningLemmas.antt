-- Calls, walks and replies of which each step means its source, since each step that answers an address does.
use Rattle.std.proofs.Common.{eqb-true, ◌≡◌, ◌≢◌, ℕ, zero, suc, Bool, true, false, cond, ◌==◌, inl, inr, List, [], Option, Some, None, Result, Ok, Err, IfOk, IfSome, refl, sym, subst}
use Rattle.framehop_core.specs.Memory.{Memory}
use Rattle.framehop_core.specs.CodeAddress.{FrameLocation, at_instruction_pointer, at_return_address, location_of}
use Rattle.framehop_core.specs.Outcome.{Outcome, answered, answer_of, registers_after, root, refused}
use Rattle.framehop_core.specs.declared.error.Error.{Error}
use Rattle.framehop_core.specs.declared.error.Error.TheVariants.{OutOfMemory as NoMemory, ReturnAddressIsNull}
use Rattle.framehop.specs.CachedWorld.{CachedWorld, world_of, unwinder_at, cached_reply}
use Rattle.framehop.specs.Fresh.{step}
use Rattle.framehop.specs.Meant.{AreMeant, IsWalkMeant, IsReplyMeant}
use Rattle.framehop.specs.Modules.{ModuleView}
use Rattle.framehop.specs.Unwinding.{Unwinding}
use Rattle.framehop.specs.Walk.{at_refusal, frame_before, onward, callers, walk_from}
use Rattle.framehop.specs.World.{memory_of}
use Rattle.framehop.specs.declared.session.commands.Command.{Command}
use Rattle.framehop.specs.declared.session.commands.Command.TheVariants.{New, Clone, Add, Remove, Step as StepCommand, Walk as WalkCommand, Stats}
use Rattle.framehop.proofs.CachedWorldLemmas.{modules-at}

-- two facts as one
pub both : {A B : Type 0} → A → B → A × B
both a b = (a, b)

-- what holds of a step that answers an address, holds of a call that answers as the step does
pub answer-means : {Regs : Type 0} (result : Result (Option ℕ) Error) (outcome : Outcome Regs) (old new : Regs) (Means : ℕ → Type 0) → (result ≢ Err NoMemory → (result ≡ answer_of outcome) × (new ≡ registers_after old outcome)) → ((address : ℕ) → outcome ≡ answered address new → Means address) → IfOk result (λ answer. IfSome answer Means)
answer-means (Err error) outcome old new Means told means = tt
answer-means (Ok None) outcome old new Means told means = tt
answer-means (Ok (Some address)) (answered a r) old new Means told means = means address (let t = told (λ e. cc) in (let f = t.0 in (let h = t.1 in cc)))
answer-means (Ok (Some address)) root old new Means told means = (let t = told (λ e. cc) in (let f = t.0 in cc))
answer-means (Ok (Some address)) (refused error) old new Means told means = (let t = told (λ e. cc) in (let f = t.0 in cc))

module _ {Regs : Type 0} (stepping : FrameLocation → Regs → Outcome Regs) (Means : FrameLocation → Regs → ℕ → Regs → Type 0) (law : (location : FrameLocation) (old new : Regs) (address : ℕ) → stepping location old ≡ answered address new → Means location old address new) where
  frame-meant : (n : ℕ) (location : FrameLocation) (old : Regs) (address : ℕ) (new : Regs) (null : Bool) → (address == 0) ≡ null → Means location old address new → AreMeant Means (at_return_address address) new (callers stepping n (at_return_address address) new).frames (callers stepping n (at_return_address address) new).regs → let walk = cond null (record { frames = []; end = at_refusal ReturnAddressIsNull; regs = new }) (frame_before (at_return_address address) (callers stepping n (at_return_address address) new)) in AreMeant Means location old walk.frames walk.regs
  unfolding AreMeant
  frame-meant n location old address new true null means rest = inr (subst (λ a. Means location old a new) (eqb-true address 0 null) means)
  frame-meant n location old address new false null means rest = (new, means, rest)

  onward-meant : (n : ℕ) (location : FrameLocation) (old : Regs) (o : Outcome Regs) → stepping location old ≡ o → ((address : ℕ) (new : Regs) → AreMeant Means (at_return_address address) new (callers stepping n (at_return_address address) new).frames (callers stepping n (at_return_address address) new).regs) → AreMeant Means location old (onward (callers stepping n) old o).frames (onward (callers stepping n) old o).regs
  unfolding AreMeant
  onward-meant n location old (answered address new) is rest =
      frame-meant n location old address new (address == 0) refl (law location old new address is) (rest address new)
  onward-meant n location old root is rest = inl refl
  onward-meant n location old (refused error) is rest = inl refl

  callers-meant : (n : ℕ) (location : FrameLocation) (old : Regs) → AreMeant Means location old (callers stepping n location old).frames (callers stepping n location old).regs
  unfolding callers AreMeant
  callers-meant zero location old = inl refl
  callers-meant (suc n) location old =
      onward-meant n location old (stepping location old) refl (λ address new. callers-meant n (at_return_address address) new)

  -- each step of a walk means its source
  pub walk-meant : (limit pc : ℕ) (regs : Regs) → IsWalkMeant Means regs (walk_from stepping limit pc regs)
  unfolding walk_from
  walk-meant zero pc regs = refl
  walk-meant (suc n) pc regs = callers-meant n (at_instruction_pointer pc) regs

-- so does each step of a reply
pub reply-meant : {D R Regs : Type 0} (unwinding : Unwinding R Regs) (Means : List ModuleView → FrameLocation → Regs → Memory → ℕ → Regs → Type 0) → ((modules : List ModuleView) (location : FrameLocation) (old new : Regs) (memory : Memory) (address : ℕ) → step unwinding modules location old memory ≡ answered address new → Means modules location old memory address new) → (state : CachedWorld R) (command : Command D Regs) → IsReplyMeant Means (world_of state) command (cached_reply unwinding state command)
reply-meant unwinding Means law state New = tt
reply-meant unwinding Means law state (Add unwinder added) = tt
reply-meant unwinding Means law state (Clone unwinder) = tt
reply-meant unwinding Means law state (Remove unwinder start) = tt
reply-meant unwinding Means law state (StepCommand unwinder cache address regs memory) =
    let modules = (unwinder_at state unwinder).modules in
    let stepping = step unwinding modules (location_of address) regs (memory_of memory) in
    subst (λ (known : List ModuleView). IfOk (answer_of stepping) (λ answer. IfSome answer (λ a. Means known (location_of address) regs (memory_of memory) a (registers_after regs stepping))))
    (sym (modules-at state.unwinders unwinder))
    (answer-means (answer_of stepping) stepping regs (registers_after regs stepping) _ (λ some. (refl, refl))
    (λ a e. law modules (location_of address) regs (registers_after regs stepping) (memory_of memory) a e))
reply-meant unwinding Means law state (WalkCommand unwinder cache pc regs memory limit) =
    let modules = (unwinder_at state unwinder).modules in
    subst (λ (known : List ModuleView). IsWalkMeant (λ location old address new. Means known location old (memory_of memory) address new) regs (walk_from (λ location old. step unwinding modules location old (memory_of memory)) limit pc regs))
    (sym (modules-at state.unwinders unwinder))
    (walk-meant (λ location old. step unwinding modules location old (memory_of memory)) (λ location old address new. Means modules location old (memory_of memory) address new) (λ location old new address e. law modules location old new (memory_of memory) address e) limit pc regs)
reply-meant unwinding Means law state (Stats cache) = tt
