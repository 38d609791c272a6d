use Rattle.std.proofs.Common.{List, [], map, ap, sym, ◌∙◌, subst}
use Rattle.framehop.specs.Loaded.{with_modules}
use Rattle.framehop.specs.Modules.{ModuleView, greatest_end}
use Rattle.framehop_processes.specs.Mappings.{IsInOrder}
use Rattle.framehop_processes.specs.Process.{StartsAt}
use Rattle.framehop_processes.specs.declared.mapping.Mapping.{Mapping}
use Rattle.framehop_processes.proofs.MappingLemmas.{modules-loaded, greatest-mapped}
use Rattle.framehop_processes.proofs.process.Process.with_mappings.Goals as goal

pub returns-clause-served : goal.returns-clause-served
returns-clause-served g c =
    let module_of : Mapping → ModuleView = g.M.ModuleMaker.module_of c.args.maker.now in
    let starts : StartsAt module_of = λ m. g.met.M.ModuleMaker.start_is c.args.maker.now m in
    let mappings = c.in_ok-mappings.mappings.items in
    let order : IsInOrder 0 mappings = subst (λ (list : List Mapping). IsInOrder 0 list) (sym c.in_ok-mappings.ensures.value) c.in_ok-mappings.ensures.ordered in
    ap (λ view. view.modules) c.in_ok-unwinder.ensures.made.0
    ∙ ap (λ added. with_modules added []) (c.in_ok-modules.ensures ∙ ap (map module_of) c.as_slice.ensures.value)
    ∙ modules-loaded module_of starts mappings [] order

pub invariant_of-result : goal.invariant_of-result
invariant_of-result g c = (
  subst (λ (list : List Mapping). IsInOrder 0 list) (sym c.in_ok-mappings.ensures.value) c.in_ok-mappings.ensures.ordered,
  ap greatest_end (returns-clause-served g c)
      ∙ greatest-mapped (g.M.ModuleMaker.module_of c.args.maker.now) (λ m. g.met.M.ModuleMaker.end_is c.args.maker.now m) c.in_ok-mappings.mappings.items,
)
