use Rattle.std.proofs.Common.{sym, subst}
use Rattle.framehop_walk.specs.Sharing.{plan_of, Takes}
use Rattle.framehop_walk.proofs.Places.{counted-made, counted-by, on_ok_1, on_ok_2, on_ok_4}
use Rattle.framehop_walk.proofs.Plans.{takes-by, takes-new, takes-stats, takes-step, takes-walk, takes-add, takes-remove, shared-takes, shared-counted}
use Rattle.framehop_walk.proofs.sharing.take_command.Goals as goal

pub returns-in-New-clause-counted : goal.returns-in-New-clause-counted
returns-in-New-clause-counted g c =
    let old = c.args.sharing.now in
    on_ok_2 c.make.result (λ places counts. counted-by _ _ _ _ places counts (counted-made old.places.items old.counts.items c.requires))
    c.make.ensures.places c.make.ensures.counts

pub returns-in-New-clause-takes : goal.returns-in-New-clause-takes
returns-in-New-clause-takes g c =
    let old = c.args.sharing.now in
    let unwinding = g.A.Unwinding.unwinding g.P.AllocationPolicy.policy in
    on_ok_4 c.make.result (λ places counts commands told.
    takes-by unwinding (plan_of old) _ c.args.command _ _ _ _ _ _ _ _ c.in-New.is places counts commands told
    (takes-new unwinding old.places.items old.counts.items old.commands.items old.told.items c.requires))
    c.make.ensures.places c.make.ensures.counts c.make.ensures.commands c.make.ensures.told

pub returns-in-Clone-clause-counted : goal.returns-in-Clone-clause-counted
returns-in-Clone-clause-counted g c =
    on_ok_1 c.share.result (λ shared. shared-counted (plan_of c.args.sharing.now) (plan_of c.share.new.self) c.in-Clone.unwinder c.requires shared) c.share.ensures

pub returns-in-Clone-clause-takes : goal.returns-in-Clone-clause-takes
returns-in-Clone-clause-takes g c =
    let unwinding = g.A.Unwinding.unwinding g.P.AllocationPolicy.policy in
    on_ok_1 c.share.result (λ shared.
    subst (λ k. Takes unwinding k (plan_of c.args.sharing.now) (plan_of c.share.new.self)) (sym c.in-Clone.is)
    (shared-takes unwinding (plan_of c.args.sharing.now) (plan_of c.share.new.self) c.in-Clone.unwinder c.requires shared)) c.share.ensures

pub returns-in_ok-place-in-Add-clause-takes : goal.returns-in_ok-place-in-Add-clause-takes
returns-in_ok-place-in-Add-clause-takes g c =
    let old = c.args.sharing.now in
    let unwinding = g.A.Unwinding.unwinding g.P.AllocationPolicy.policy in
    on_ok_2 c.push.result (λ commands told.
    takes-by unwinding (plan_of old) _ c.args.command _ _ _ _ _ _ _ _ c.in-Add.is c.push.ensures.places c.push.ensures.counts commands told
    (takes-add unwinding (plan_of old) c.requires c.in-Add.module c.in-Add.unwinder (plan_of c.own.new.self) c.in_ok-place-in-Add.place c.in_ok-place-in-Add.told c.in_ok-place-in-Add.ensures.owns))
    c.push.ensures.commands c.push.ensures.told

pub returns-in_ok-place-in-Remove-clause-takes : goal.returns-in_ok-place-in-Remove-clause-takes
returns-in_ok-place-in-Remove-clause-takes g c =
    let old = c.args.sharing.now in
    let unwinding = g.A.Unwinding.unwinding g.P.AllocationPolicy.policy in
    on_ok_2 c.push-in-Remove.result (λ commands told.
    takes-by unwinding (plan_of old) _ c.args.command _ _ _ _ _ _ _ _ c.in-Remove.is c.push-in-Remove.ensures.places c.push-in-Remove.ensures.counts commands told
    (takes-remove unwinding (plan_of old) c.requires c.in-Remove.start c.in-Remove.unwinder (plan_of c.own-in-Remove.new.self) c.in_ok-place-in-Remove.place c.in_ok-place-in-Remove.told c.in_ok-place-in-Remove.ensures.owns))
    c.push-in-Remove.ensures.commands c.push-in-Remove.ensures.told

pub returns-in-Step-clause-takes : goal.returns-in-Step-clause-takes
returns-in-Step-clause-takes g c =
    let old = c.args.sharing.now in
    let unwinding = g.A.Unwinding.unwinding g.P.AllocationPolicy.policy in
    on_ok_2 c.push-in-Step.result (λ commands told.
    takes-by unwinding (plan_of old) _ c.args.command _ _ _ _ _ _ _ _ c.in-Step.is c.push-in-Step.ensures.places c.push-in-Step.ensures.counts commands told
    (takes-step unwinding old.places.items old.counts.items old.commands.items old.told.items c.requires c.in-Step.unwinder c.in-Step.cache c.place_of.result c.place_of.ensures c.in-Step.address c.in-Step.regs c.in-Step.memory))
    c.push-in-Step.ensures.commands c.push-in-Step.ensures.told

pub returns-in-Walk-clause-takes : goal.returns-in-Walk-clause-takes
returns-in-Walk-clause-takes g c =
    let old = c.args.sharing.now in
    let unwinding = g.A.Unwinding.unwinding g.P.AllocationPolicy.policy in
    on_ok_2 c.push-in-Walk.result (λ commands told.
    takes-by unwinding (plan_of old) _ c.args.command _ _ _ _ _ _ _ _ c.in-Walk.is c.push-in-Walk.ensures.places c.push-in-Walk.ensures.counts commands told
    (takes-walk unwinding old.places.items old.counts.items old.commands.items old.told.items c.requires c.in-Walk.unwinder c.in-Walk.cache c.place_of-in-Walk.result c.place_of-in-Walk.ensures c.in-Walk.pc c.in-Walk.regs c.in-Walk.memory c.in-Walk.limit))
    c.push-in-Walk.ensures.commands c.push-in-Walk.ensures.told

pub returns-in-Stats-clause-takes : goal.returns-in-Stats-clause-takes
returns-in-Stats-clause-takes g c =
    let old = c.args.sharing.now in
    let unwinding = g.A.Unwinding.unwinding g.P.AllocationPolicy.policy in
    on_ok_2 c.push-in-Stats.result (λ commands told.
    takes-by unwinding (plan_of old) _ c.args.command _ _ _ _ _ _ _ _ c.in-Stats.is c.push-in-Stats.ensures.places c.push-in-Stats.ensures.counts commands told
    (takes-stats unwinding old.places.items old.counts.items old.commands.items old.told.items c.requires c.in-Stats.cache))
    c.push-in-Stats.ensures.commands c.push-in-Stats.ensures.told
