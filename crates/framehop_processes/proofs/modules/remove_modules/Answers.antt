use Rattle.std.proofs.Common.{◌≡◌, ◌≤◌, ◌<◌, ◌+◌, ◌-◌, ◌++◌, length, map, take, true, false, get_or, arith, refl, ap, subst, ◌∙◌, ⊎_elim}
use Rattle.std.proofs.lemmas.Bool.{cases_Bool}
use Rattle.framehop.specs.Modules.{UnwinderView, has_start, without_module}
use Rattle.framehop_processes.specs.declared.mapping.Mapping.{Mapping}
use Rattle.framehop_processes.specs.Mappings.{IsInOrder}
use Rattle.framehop_processes.proofs.MappingLemmas.{last-removed}
use Rattle.framehop_processes.proofs.modules.remove_modules.Goals as goal

pub loop-left-preserved : goal.loop-left-preserved
loop-left-preserved g c =
    let default : Mapping = record { start = 0; end = 0; base_avma = 0; file = 0; has_sections = false } in
    let l = c.loop-left in
    let removed = c.args.removed.now in
    let left = l.left - 1 in
    let m = get_or removed left default in
    let old = g.U.Unwinder.unwinder_view l.unwinder in
    let so_far = l.invariant.0 in
    let bound = l.invariant.1 in
    let test = c.loop-left-test.true in
    let one : l.left ≡ left + 1 = omega (arith, test) in
    let within : left < length removed = omega (arith, test, bound) in
    let drawn : l.generations ≤ c.remove_module.new.generations =
    ⊎_elim
    (λ is. let done = c.in_ok-remove_module.ensures.removed is in let more = done.2 in omega (arith, more))
    (λ is. let same = c.in_ok-remove_module.ensures.absent is in let unchanged = same.2 in omega (arith, unchanged))
    (cases_Bool (has_start m.start old.modules)) in (
      omega (arith, so_far, drawn),
      omega (arith, bound),
      λ module_of starts before after order modules.
          let kept = l.invariant.2 module_of starts before after order modules in
          let here = subst (λ n. IsInOrder 0 (before ++ (take n removed ++ after))) one kept.0 in
          let next = last-removed module_of starts removed left default m before after within refl here in
          let listed : old.modules ≡ map module_of (before ++ (take (left + 1) removed ++ after)) =
          kept.1 ∙ ap (λ n. map module_of (before ++ (take n removed ++ after))) one in
          let there : has_start m.start old.modules ≡ true = rw listed next.1 in
          let done = c.in_ok-remove_module.ensures.removed there in
          let gone = ap (λ (u : UnwinderView). u.modules) done.1 in
          let count = kept.2 in
          let drew = done.2 in (
            next.0,
            gone ∙ ap (without_module m.start) listed ∙ next.2,
            omega (arith, count, drew, one),
          ),
    )
