use Rattle.std.proofs.Common.{◌<◌, [], length, refl, arith, rules}
use Rattle.std.proofs.lemmas.List.{get_or_read}
use Rattle.framehop.specs.CachedWorld.{CachedWorld}
use Rattle.framehop.proofs.CachedWorldLemmas.{removal-served, removal-drawn, removal-exhausted}
use Rattle.framehop.proofs.session.world.Session.remove_module.Goals as goal

pub returns-in-Ok-clause-drawn : goal.returns-in-Ok-clause-drawn
returns-in-Ok-clause-drawn g c =
    let unwinders = c.args.self.now.unwinders.items in
    let within : c.args.unwinder < length unwinders = search rules in
    let target = get_or_read unwinders c.args.unwinder _ within c.index_mut-target.ensures.value (record { modules = []; generation = 0 }) in
    let state : CachedWorld g.row.A-UnwindRule.Denot = record { unwinders = unwinders; next = c.args.generations.now; caches = c.args.self.now.caches.items } in
    removal-drawn state c.args.unwinder c.args.start within _ target _ _ (λ e. let facts = c.in-Ok.ensures.absent e in (facts.1, facts.2)) c.in-Ok.ensures.removed

pub returns-in-Ok-clause-served : goal.returns-in-Ok-clause-served
returns-in-Ok-clause-served g c =
    let unwinders = c.args.self.now.unwinders.items in
    let within : c.args.unwinder < length unwinders = search rules in
    let target = get_or_read unwinders c.args.unwinder _ within c.index_mut-target.ensures.value (record { modules = []; generation = 0 }) in
    let state : CachedWorld g.row.A-UnwindRule.Denot = record { unwinders = unwinders; next = c.args.generations.now; caches = c.args.self.now.caches.items } in
    let served = removal-served state c.args.unwinder c.args.start within _ target _ _ (λ e. let facts = c.in-Ok.ensures.absent e in (facts.1, facts.2)) c.in-Ok.ensures.removed in
    (served.0, refl, served.1)

pub returns-in-Err-OutOfMemory-clause-drawn : goal.returns-in-Err-OutOfMemory-clause-drawn
returns-in-Err-OutOfMemory-clause-drawn g c = let facts = c.in-Err-OutOfMemory.ensures.exhausted in omega (arith, facts.4)

pub returns-in-Err-GenerationsExhausted-clause-drawn : goal.returns-in-Err-GenerationsExhausted-clause-drawn
returns-in-Err-GenerationsExhausted-clause-drawn g c = let facts = c.in-Err-GenerationsExhausted.ensures.exhausted in omega (arith, facts.4)

pub returns-in-Err-GenerationsExhausted-clause-served : goal.returns-in-Err-GenerationsExhausted-clause-served
returns-in-Err-GenerationsExhausted-clause-served g c =
    let unwinders = c.args.self.now.unwinders.items in
    let within : c.args.unwinder < length unwinders = search rules in
    let target = get_or_read unwinders c.args.unwinder _ within c.index_mut-target.ensures.value (record { modules = []; generation = 0 }) in
    let facts = c.in-Err-GenerationsExhausted.ensures.exhausted in
    let state : CachedWorld g.row.A-UnwindRule.Denot = record { unwinders = unwinders; next = c.args.generations.now; caches = c.args.self.now.caches.items } in (
      λ other. (removal-exhausted state c.args.unwinder c.args.start within _ target facts.1 facts.2, facts.4),
      λ memory. absurd (let same = memory in cc),
    )
