use Rattle.std.proofs.Common.{◌<◌, [], length, refl, ap, ◌∙◌, rules, slice_set}
use Rattle.std.proofs.lemmas.List.{get_or_read}
use Rattle.framehop.specs.Modules.{UnwinderView, with_module}
use Rattle.framehop.proofs.CachedWorldLemmas.{adds-allowed, CachedWorld-equal}
use Rattle.framehop.proofs.session.world.Session.add_module.Goals as goal

pub returns-in-Ok-clause-served : goal.returns-in-Ok-clause-served
returns-in-Ok-clause-served g c =
    let unwinders = c.args.self.now.unwinders.items in
    let within : c.args.unwinder < length unwinders = search rules in
    let target = get_or_read unwinders c.args.unwinder _ within c.index_mut-target.ensures.value (record { modules = []; generation = 0 }) in
    let added = c.in-Ok.ensures.added in (
      adds-allowed {R = g.row.A-UnwindRule.Denot} (record { unwinders = unwinders; next = c.args.generations.now; caches = c.args.self.now.caches.items }) c.args.unwinder within added.2,
      refl,
      CachedWorld-equal _ _
          (ap (slice_set unwinders c.args.unwinder) (added.0 ∙ ap (λ (u : UnwinderView). record { modules = with_module c.args.module u.modules; generation = c.args.generations.now }) target))
          added.1
          refl,
    )
