use Rattle.std.proofs.Common.{arith, ap, refl, ◌∙◌}
use Rattle.framehop.specs.Modules.{ModuleView, with_module}
use Rattle.framehop_processes.specs.declared.mapping.Mapping.{Mapping}
use Rattle.framehop_processes.specs.Process.{StartsAt}
use Rattle.framehop_processes.proofs.MappingLemmas.{next-added}
use Rattle.framehop_processes.proofs.modules.add_modules.Goals as goal

pub loop-mapping-preserved : goal.loop-mapping-preserved
loop-mapping-preserved g c =
    let l = c.loop-mapping in
    let module_of : Mapping → ModuleView = g.M.ModuleMaker.module_of c.args.maker.now in
    let starts : StartsAt module_of = λ m. g.met.M.ModuleMaker.start_is c.args.maker.now m in
    let drawn = c.in_ok-add_module.ensures.drawn in
    let count = l.invariant.0 in
    let before_count = drawn.0 in
    let after_count = drawn.1 in (
      omega (arith, count, after_count),
      λ some. omega (arith, before_count, after_count),
      λ before after order modules.
          c.in_ok-add_module.ensures.added
          ∙ ap (λ (m : ModuleView). with_module m (g.U.Unwinder.unwinder_view l.unwinder).modules) c.in_ok-made.ensures
          ∙ ap (with_module (module_of _)) (l.invariant.2 before after order modules)
          ∙ next-added module_of starts c.args.added.now l.mapping-index _ _ before after c.loop-mapping-test.true refl order,
    )
