use Rattle.std.proofs.Common.{◌≡◌, ◌<◌, [], length, Err, refl, ap, ◌∙◌, rules, slice_set}
use Rattle.std.proofs.lemmas.List.{get_or_read}
use Rattle.std.proofs.lemmas.Result.{err_from_is_err_and}
use Rattle.framehop_cache.specs.Cache.{empty_cache}
use Rattle.framehop.specs.World.{stepped}
use Rattle.framehop.specs.CachedWorld.{CachedWorld, of_world}
use Rattle.framehop.proofs.CachedWorldLemmas.{Among-index, walks-allowed, CachedWorld-equal}
use Rattle.framehop.proofs.session.world.Session.step.Goals as goal

pub returns : goal.returns
returns g c = λ next old.
    let unwinders = c.args.self.now.unwinders.items in
    let caches = c.args.self.now.caches.items in
    let state : CachedWorld g.row.A-UnwindRule.Denot = record { unwinders = unwinders; next = next; caches = caches } in
    let within : c.args.unwinder < length unwinders = search rules in
    let in_caches : c.args.cache < length caches = search rules in
    let stepper = get_or_read unwinders c.args.unwinder _ within c.index-stepper.ensures (record { modules = []; generation = 0 }) in
    let shared = get_or_read caches c.args.cache _ in_caches c.index_mut-shared.ensures.value empty_cache in
    let sound = old.sound _ _ (Among-index unwinders c.args.unwinder (record { modules = []; generation = 0 }) within) (Among-index caches c.args.cache empty_cache in_caches) in
    let ran = rw stepper at (c.in_ok-result.ensures.answers (rw (stepper, shared) sound)) in
    let cached = rw (stepper, shared) at c.in_ok-result.ensures.cached in (
      walks-allowed state c.args.unwinder c.args.cache within in_caches,
      λ i. of_world (stepped (ran.0 i) (ran.1 i)),
      CachedWorld-equal _ _ refl refl (ap (slice_set caches c.args.cache) cached),
    )

pub returns-in_err-result : goal.returns-in_err-result
returns-in_err-result g c = λ next old.
    let unwinders = c.args.self.now.unwinders.items in
    let caches = c.args.self.now.caches.items in
    let state : CachedWorld g.row.A-UnwindRule.Denot = record { unwinders = unwinders; next = next; caches = caches } in
    let within : c.args.unwinder < length unwinders = search rules in
    let in_caches : c.args.cache < length caches = search rules in
    let stepper = get_or_read unwinders c.args.unwinder _ within c.index-stepper.ensures (record { modules = []; generation = 0 }) in
    let shared = get_or_read caches c.args.cache _ in_caches c.index_mut-shared.ensures.value empty_cache in
    let p = err_from_is_err_and c.from_residual.result c.from_residual.ensures.1 in
    let is : c.from_residual.result ≡ Err c.in_err-result.field-0.0 = p.1 ∙ ap (λ error. Err error) p.2 in
    let ran_out = c.in_err-result.ensures.refused in
    let may = rw (stepper, shared) at ran_out.1 in
    rw is (
      λ other. absurd (other ran_out.0),
      λ memory. record { allowed = walks-allowed state c.args.unwinder c.args.cache within in_caches; may = may; next = refl },
    )
