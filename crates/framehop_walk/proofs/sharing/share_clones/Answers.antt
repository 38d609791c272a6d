use Rattle.std.proofs.Common.{◌≡◌, [], ◌∷◌, refl, sym, ◌∙◌, subst, rules}
use Rattle.std.proofs.lemmas.List.{nil_from_length}
use Rattle.std.specs.Vec.Iter.{into_iter_items}
use Rattle.framehop.specs.CachedWorld.{empty_cached_world}
use Rattle.framehop_walk.specs.Sharing.{Plan, plan_of, IsCounted, Continues}
use Rattle.framehop_walk.proofs.Places.{counted-none}
use Rattle.framehop_walk.proofs.Plans.{Continues-start, Continues-taken, Continues-end}
use Rattle.framehop_walk.proofs.sharing.share_clones.Goals as goal

pub loop-command-init : goal.loop-command-init
loop-command-init g c =
    let unwinding = g.A.Unwinding.unwinding g.P.AllocationPolicy.policy in
    let given : into_iter_items c.into_iter-command-iterator.result ≡ c.args.commands.items = search rules in
    let none = c.new-sharing.ensures in (
      subst (λ (p : Plan _). IsCounted p.places p.counts) (sym none) counted-none,
      (λ caches next.
          subst (λ p. Continues unwinding (empty_cached_world caches next) p (into_iter_items c.into_iter-command-iterator.result) c.args.commands.items) (sym none)
          (subst (λ cs. Continues unwinding (empty_cached_world caches next) _ cs c.args.commands.items) (sym given)
          (Continues-start unwinding (empty_cached_world caches next) c.args.commands.items refl))),
      search rules,
    )

pub loop-command-preserved : goal.loop-command-preserved
loop-command-preserved g c =
    let unwinding = g.A.Unwinding.unwinding g.P.AllocationPolicy.policy in
    let old = c.loop-command.invariant in
    let taken : into_iter_items c.loop-command.command-iterator ≡ c.in-Some.command ∷ into_iter_items c.next.new.self = search rules in (
      c.in_ok-take_command.ensures.counted,
      (λ caches next.
          Continues-taken unwinding (empty_cached_world caches next) (plan_of c.loop-command.sharing) (plan_of c.take_command.new.sharing) c.in-Some.command (into_iter_items c.next.new.self) c.args.commands.items
          c.in_ok-take_command.ensures.takes
          (subst (λ cs. Continues unwinding (empty_cached_world caches next) (plan_of c.loop-command.sharing) cs c.args.commands.items) taken (old.1 caches next))),
      search rules,
    )

pub returns : goal.returns
returns g c =
    let unwinding = g.A.Unwinding.unwinding g.P.AllocationPolicy.policy in
    let none : into_iter_items c.loop-command.command-iterator ≡ [] = nil_from_length _ (sym c.loop-command.invariant.2 ∙ c.in-None.ensures.steps.0) in
    λ caches next.
    Continues-end unwinding (empty_cached_world caches next) (plan_of c.loop-command.sharing) (into_iter_items c.loop-command.command-iterator) c.args.commands.items none (c.loop-command.invariant.1 caches next)
