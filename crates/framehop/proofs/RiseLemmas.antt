-- Each step of a walk after the first raises the stack pointer, so the walk has few frames.
use Rattle.std.proofs.Common.{◌≡◌, ℕ, zero, suc, ◌+◌, ◌-◌, ◌<◌, ◌≤◌, Bool, true, false, cond, ◌==◌, ◌⊎◌, inl, inr, List, [], ◌∷◌, length, Option, Some, None, Result, Ok, Err, refl, sym, ap, ◌∙◌, subst, arith}
use Rattle.std.specs.Prelude.{MatchBool}
use Rattle.std.specs.Option.{option_and_then, unwrap_or}
use Rattle.framehop_core.specs.Memory.{Memory}
use Rattle.framehop_core.specs.Outcome.{Outcome, answered, root, refused, registers_after}
use Rattle.framehop_core.specs.Laws.Outcome.{same-answered}
use Rattle.framehop_core.specs.CodeAddress.{FrameLocation, at_instruction_pointer, at_return_address, lookup_address}
use Rattle.framehop_core.specs.Runs.{Raises}
use Rattle.framehop_core.specs.declared.error.Error.TheVariants.{ReturnAddressIsNull}
use Rattle.framehop.specs.Modules.{ModuleView, covering}
use Rattle.framehop.specs.Answer.{Fresh, by_rule, direct}
use Rattle.framehop.specs.Unwinding.{Unwinding, RisesAsSaid}
use Rattle.framehop.specs.Fresh.{fresh, values_or, outcome_of, step}
use Rattle.framehop.specs.Walk.{Walk, at_refusal, frame_before, onward, callers, walk_from}
use Rattle.framehop.specs.World.{World, memory_of, refusal_of, unless_refused}
use Rattle.framehop.specs.CachedWorld.{CachedWorld, CachedReply, world_of, unwinder_at, cached_reply, cached_after, reply_then, cached_replies, EachReply}
use Rattle.framehop.specs.Rise.{IsWalkWithinRise, IsRuleStep, WhereAnswered, EachAnswered, IsWalkOfRules, IsReplyWithinRise}
use Rattle.framehop.specs.declared.session.commands.Command.{Command}
use Rattle.framehop.specs.declared.session.commands.Command.TheVariants.{New, Clone, Add, Remove, Step as StepCommand, Walk as WalkCommand, Stats}
use Rattle.framehop.specs.declared.session.commands.SessionError.{SessionError}
use Rattle.framehop.proofs.CachedWorldLemmas.{modules-at}
use Rattle.framehop.proofs.WorldLemmas.{world-after}

-- a reply before others is the first of the list
reply-first : {Regs : Type 0} (refusal : Option SessionError) (reply : CachedReply Regs) (rest : Result (List (CachedReply Regs)) SessionError) (replies : List (CachedReply Regs)) → unless_refused refusal (reply_then reply rest) ≡ Ok replies → (tail : List (CachedReply Regs)) × (rest ≡ Ok tail) × (replies ≡ reply ∷ tail)
reply-first (Some error) reply rest replies e = cc
reply-first None reply (Err error) replies e = cc
reply-first None reply (Ok tail) replies e = (tail, refl, cc)

-- the law of rules, of equal outcomes and stack pointers
pub raises-as : {R Regs : Type 0} (outcome outcome' : R → Bool → Regs → Memory → Outcome Regs) (sp sp' : Regs → ℕ) (IsAfterStep : Memory → Regs → Type 0) → outcome ≡ outcome' → sp ≡ sp' → Raises outcome sp IsAfterStep → Raises outcome' sp' IsAfterStep
raises-as {R} {Regs} outcome outcome' sp sp' IsAfterStep p q raises =
    subst (λ (s : Regs → ℕ). Raises outcome' s IsAfterStep) q
    (subst (λ (o : R → Bool → Regs → Memory → Outcome Regs). Raises o sp IsAfterStep) p raises)

module _ {R Regs : Type 0} (unwinding : Unwinding R Regs) where
  -- computed values come from a module's data
  some-direct : (x : Option (Fresh R Regs)) (compute : Regs → Memory → Option (ℕ × Regs)) → unwrap_or x (by_rule unwinding.fallback) ≡ direct compute → x ≡ Some (direct compute)
  some-direct (Some answer) compute e = ap Some e
  some-direct None compute e = cc

  module-direct : (o : Option ModuleView) (f : ModuleView → Option (Fresh R Regs)) (compute : Regs → Memory → Option (ℕ × Regs)) → unwrap_or (option_and_then f o) (by_rule unwinding.fallback) ≡ direct compute → (m : ModuleView) × (f m ≡ Some (direct compute))
  module-direct (Some m) f compute e = (m, some-direct (f m) compute e)
  module-direct None f compute e = cc

  fresh-direct : (modules : List ModuleView) (address : ℕ) (first : Bool) (compute : Regs → Memory → Option (ℕ × Regs)) → fresh unwinding modules address first ≡ direct compute → (m : ModuleView) × (unwinding.module_answer m (address - m.base_avma) first ≡ Some (direct compute))
  unfolding fresh
  fresh-direct modules address first compute e = module-direct (covering modules address) _ compute e

  -- where all steps rise, so does one that answers
  module _ (said : RisesAsSaid unwinding) (always : unwinding.always_rises ≡ true) (old new : Regs) (memory : Memory) (address : ℕ) where
    values-rise : (o : Option (ℕ × Regs)) → ((values : ℕ × Regs) → o ≡ Some values → unwinding.stack_pointer old < unwinding.stack_pointer values.1) → values_or o (unwinding.outcome unwinding.fallback false old memory) ≡ answered address new → unwinding.stack_pointer old < unwinding.stack_pointer new
    values-rise (Some values) up e =
        subst (λ (regs : Regs). unwinding.stack_pointer old < unwinding.stack_pointer regs) (same-answered values.0 address values.1 new e).1 (up values refl)
    values-rise None up e = said.rules always unwinding.fallback old new memory address e

    answer-rises : (answer : Fresh R Regs) → ((compute : Regs → Memory → Option (ℕ × Regs)) → answer ≡ direct compute → (m : ModuleView) × ((relative : ℕ) × (unwinding.module_answer m relative false ≡ Some (direct compute)))) → outcome_of unwinding answer false old memory ≡ answered address new → unwinding.stack_pointer old < unwinding.stack_pointer new
    answer-rises (by_rule rule) from e = said.rules always rule old new memory address e
    answer-rises (direct compute) from e =
        let m = from compute refl in
        values-rise (compute old memory) (λ values computed. said.values always m.0 m.1.0 compute m.1.1 old memory values computed) e

    step-rises : (modules : List ModuleView) (at : ℕ) → step unwinding modules (at_return_address at) old memory ≡ answered address new → unwinding.stack_pointer old < unwinding.stack_pointer new
    unfolding step
    step-rises modules at e =
        answer-rises (fresh unwinding modules (lookup_address (at_return_address at)) false)
        (λ compute is. let m = fresh-direct modules (lookup_address (at_return_address at)) false compute is in (m.0, (_, m.1)))
        e

  module _ (IsAfterStep : Memory → Regs → Type 0) (raises : Raises unwinding.outcome unwinding.stack_pointer IsAfterStep) (said : RisesAsSaid unwinding) where
    module _ (modules : List ModuleView) (memory : Memory) where
      abbrev stepping : FrameLocation → Regs → Outcome Regs
      stepping location old = step unwinding modules location old memory

      -- the walk from a frame on, by steps of the modules
      abbrev walk_at : ℕ → FrameLocation → Regs → Walk Regs
      walk_at n location old = callers stepping n location old

      -- how far the stack pointer has risen in a walk from a frame to which a step has led
      abbrev RisesFrom : Regs → Walk Regs → Type 0
      RisesFrom old walk = length walk.frames + unwinding.stack_pointer old ≤ unwinding.stack_pointer walk.regs

      -- what is known at such a frame: all steps rise, or those that follow are of rules
      abbrev Rising : ℕ → ℕ → Regs → Type 0
      Rising n address old =
          (unwinding.always_rises ≡ true) ⊎ (IsAfterStep memory old × EachAnswered stepping (IsRuleStep unwinding modules memory) n (at_return_address address) old)

      -- where the step at a location answers, it is a rule's, and so are those after it
      rule-answered : (n : ℕ) (location : FrameLocation) (old : Regs) (address : ℕ) (new : Regs) → EachAnswered stepping (IsRuleStep unwinding modules memory) (suc n) location old → stepping location old ≡ answered address new → IsRuleStep unwinding modules memory location old × MatchBool (address == 0) (Unit {0}) (EachAnswered stepping (IsRuleStep unwinding modules memory) n (at_return_address address) new)
      unfolding EachAnswered
      rule-answered n location old address new each e =
          subst (WhereAnswered (IsRuleStep unwinding modules memory location old) (EachAnswered stepping (IsRuleStep unwinding modules memory) n)) e each

      not-null : (null : Bool) (P : Type 0) → null ≡ false → MatchBool null (Unit {0}) P → P
      not-null false P e p = p
      not-null true P e p = cc

      next-rising : (n at : ℕ) (old : Regs) (address : ℕ) (new : Regs) → Rising (suc n) at old → stepping (at_return_address at) old ≡ answered address new → (unwinding.stack_pointer old < unwinding.stack_pointer new) × ((address == 0) ≡ false → Rising n address new)
      next-rising n at old address new (inl always) e =
          (step-rises said always old new memory address modules at e, λ some. inl always)
      next-rising n at old address new (inr (behind, each)) e =
          let rule = rule-answered n (at_return_address at) old address new each e in
          let ran = sym rule.0.1 ∙ e in (
            raises.rises rule.0.0 old new memory address behind ran,
            λ some. inr (raises.leads rule.0.0 false old new memory address ran, not-null (address == 0) _ some rule.1),
          )

      first-rising : (n pc : ℕ) (old : Regs) (address : ℕ) (new : Regs) → (unwinding.always_rises ≡ true) ⊎ EachAnswered stepping (IsRuleStep unwinding modules memory) (suc n) (at_instruction_pointer pc) old → stepping (at_instruction_pointer pc) old ≡ answered address new → (address == 0) ≡ false → Rising n address new
      first-rising n pc old address new (inl always) e some = inl always
      first-rising n pc old address new (inr each) e some =
          let rule = rule-answered n (at_instruction_pointer pc) old address new each e in
          inr (raises.leads rule.0.0 true old new memory address (sym rule.0.1 ∙ e), not-null (address == 0) _ some rule.1)

      frame-rise : (n address : ℕ) (old new : Regs) (null : Bool) → unwinding.stack_pointer old < unwinding.stack_pointer new → (null ≡ false → RisesFrom new (walk_at n (at_return_address address) new)) → RisesFrom old (cond null (record { frames = []; end = at_refusal ReturnAddressIsNull; regs = new }) (frame_before (at_return_address address) (walk_at n (at_return_address address) new)))
      frame-rise n address old new true up rest = omega arith
      frame-rise n address old new false up rest = omega (arith, rest refl)

      onward-rise : (n : ℕ) (old : Regs) (o : Outcome Regs) → ((address : ℕ) (new : Regs) → o ≡ answered address new → (unwinding.stack_pointer old < unwinding.stack_pointer new) × ((address == 0) ≡ false → RisesFrom new (walk_at n (at_return_address address) new))) → RisesFrom old (onward (walk_at n) old o)
      onward-rise n old (answered address new) known =
          let up = known address new refl in frame-rise n address old new (address == 0) up.0 up.1
      onward-rise n old root known = omega arith
      onward-rise n old (refused error) known = omega arith

      callers-rise : (n at : ℕ) (old : Regs) → Rising n at old → RisesFrom old (walk_at n (at_return_address at) old)
      unfolding callers
      callers-rise zero at old rising = omega arith
      callers-rise (suc n) at old rising =
          onward-rise n old (stepping (at_return_address at) old)
          (λ address new e. let up = next-rising n at old address new rising e in (up.0, λ some. callers-rise n address new (up.1 some)))

      start-frame : (n address : ℕ) (new : Regs) (null : Bool) → (null ≡ false → RisesFrom new (walk_at n (at_return_address address) new)) → let walk = cond null (record { frames = []; end = at_refusal ReturnAddressIsNull; regs = new }) (frame_before (at_return_address address) (walk_at n (at_return_address address) new)) in length walk.frames ≤ 1 + (unwinding.stack_pointer walk.regs - unwinding.stack_pointer new)
      start-frame n address new true rest = omega arith
      start-frame n address new false rest = omega (arith, rest refl)

      start-rise : (n : ℕ) (old : Regs) (o : Outcome Regs) → ((address : ℕ) (new : Regs) → o ≡ answered address new → (address == 0) ≡ false → RisesFrom new (walk_at n (at_return_address address) new)) → length (onward (walk_at n) old o).frames ≤ 1 + (unwinding.stack_pointer (onward (walk_at n) old o).regs - unwinding.stack_pointer (registers_after old o))
      start-rise n old (answered address new) known = start-frame n address new (address == 0) (known address new refl)
      start-rise n old root known = omega arith
      start-rise n old (refused error) known = omega arith

      -- a walk is within the rise of the stack pointer since its first step
      pub walk-rise : (limit pc : ℕ) (regs : Regs) → (unwinding.always_rises ≡ true) ⊎ IsWalkOfRules unwinding modules memory limit pc regs → IsWalkWithinRise unwinding.stack_pointer (registers_after regs (step unwinding modules (at_instruction_pointer pc) regs memory)) (walk_from (λ at old. step unwinding modules at old memory) limit pc regs)
      unfolding walk_from callers
      walk-rise zero pc regs known = omega arith
      walk-rise (suc zero) pc regs known = omega arith
      walk-rise (suc (suc n)) pc regs known =
          omega (
            arith,
            start-rise n regs (stepping (at_instruction_pointer pc) regs)
                (λ address new e some. callers-rise n address new (first-rising n pc regs address new known e some)),
          )

    -- so is each reply that walks
    pub reply-rise : {D : Type 0} (state : CachedWorld R) (command : Command D Regs) → IsReplyWithinRise unwinding (world_of state) command (cached_reply unwinding state command)
    reply-rise state New = tt
    reply-rise state (Add unwinder added) = tt
    reply-rise state (Clone unwinder) = tt
    reply-rise state (Remove unwinder start) = tt
    reply-rise state (StepCommand unwinder cache address regs memory) = tt
    reply-rise state (WalkCommand unwinder cache pc regs memory limit) = λ known.
        subst (λ (modules : List ModuleView). IsWalkWithinRise unwinding.stack_pointer (registers_after regs (step unwinding modules (at_instruction_pointer pc) regs (memory_of memory))) (walk_from (λ at old. step unwinding (unwinder_at state unwinder).modules at old (memory_of memory)) limit pc regs))
        (sym (modules-at state.unwinders unwinder))
        (walk-rise (unwinder_at state unwinder).modules (memory_of memory) limit pc regs
        (subst (λ (modules : List ModuleView). (unwinding.always_rises ≡ true) ⊎ IsWalkOfRules unwinding modules (memory_of memory) limit pc regs) (modules-at state.unwinders unwinder) known))
    reply-rise state (Stats cache) = tt

  -- what holds of each reply to a command, holds of those to a list of commands
  pub each-reply : {D : Type 0} (Holds : World → Command D Regs → CachedReply Regs → Type 0) → ((state : CachedWorld R) (command : Command D Regs) → Holds (world_of state) command (cached_reply unwinding state command)) → (state : CachedWorld R) (commands : List (Command D Regs)) (replies : List (CachedReply Regs)) → cached_replies unwinding state commands ≡ Ok replies → EachReply Holds (world_of state) commands replies
  unfolding cached_replies EachReply
  each-reply Holds each state [] replies e = tt
  each-reply Holds each state (command ∷ commands) replies e =
      let later = cached_after unwinding state command in
      let all = reply-first (refusal_of (length state.caches) (world_of state) command) (cached_reply unwinding state command) (cached_replies unwinding later commands) replies e in
      let rest = subst (λ world. EachReply Holds world commands all.0) (world-after unwinding state command) (each-reply Holds each later commands all.0 all.1) in
      subst (EachReply Holds (world_of state) (command ∷ commands)) (sym all.2) (each state command, rest)
