use Rattle.std.proofs.Common.{◌<◌, [], length, refl, ap, rules, slice_set}
use Rattle.std.proofs.lemmas.List.{get_or_read}
use Rattle.framehop_cache.specs.Cache.{empty_cache}
use Rattle.framehop.specs.World.{walked}
use Rattle.framehop.specs.CachedWorld.{CachedWorld, of_world}
use Rattle.framehop.proofs.CachedWorldLemmas.{Among-index, walks-allowed, CachedWorld-equal}
use Rattle.framehop.proofs.session.world.Session.walk.Goals as goal

pub returns : goal.returns
returns g c = λ next old.
    let unwinders = c.args.self.now.unwinders.items in
    let caches = c.args.self.now.caches.items in
    let state : CachedWorld g.row.A-UnwindRule.Denot = record { unwinders = unwinders; next = next; caches = caches } in
    let within : c.args.unwinder < length unwinders = search rules in
    let in_caches : c.args.cache < length caches = search rules in
    let walker = get_or_read unwinders c.args.unwinder _ within c.index-walker.ensures (record { modules = []; generation = 0 }) in
    let shared = get_or_read caches c.args.cache _ in_caches c.index_mut-shared.ensures.value empty_cache in
    let sound = old.sound _ _ (Among-index unwinders c.args.unwinder (record { modules = []; generation = 0 }) within) (Among-index caches c.args.cache empty_cache in_caches) in
    let walk = rw (walker, shared) at (c.in_ok-frames.ensures.answers (rw (walker, shared) sound)) in (
      walks-allowed state c.args.unwinder c.args.cache within in_caches,
      ap (λ w. of_world (walked w)) walk.0,
      CachedWorld-equal _ _ refl refl (ap (slice_set caches c.args.cache) walk.1),
    )
