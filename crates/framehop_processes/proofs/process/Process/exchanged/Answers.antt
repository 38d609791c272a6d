use Rattle.std.proofs.Common.{List, [], map, Ok, ap, sym, ◌∙◌, subst}
use Rattle.framehop.specs.Loaded.{with_modules}
use Rattle.framehop.specs.Modules.{ModuleView, greatest_end}
use Rattle.framehop_processes.specs.Mappings.{IsInOrder}
use Rattle.framehop_processes.specs.Process.{StartsAt}
use Rattle.framehop_processes.specs.declared.mapping.Mapping.{Mapping}
use Rattle.framehop_processes.proofs.MappingLemmas.{modules-loaded, greatest-mapped}
use Rattle.framehop_processes.proofs.process.Process.exchanged.Goals as goal

pub invariant_of-result : goal.invariant_of-result
invariant_of-result g c =
    let module_of : Mapping → ModuleView = g.M.ModuleMaker.module_of c.args.maker.now in
    let done = c.in_ok-exchange_modules.ensures.exchanged (ap (λ is. Ok is) c.if-branch.true) in (
      subst (λ (list : List Mapping). IsInOrder 0 list) (sym c.in_ok-new.ensures.value) c.in_ok-new.ensures.ordered,
      ap greatest_end (done.0 ∙ ap (map module_of) c.as_slice-come.ensures.value)
          ∙ greatest-mapped module_of (λ m. g.met.M.ModuleMaker.end_is c.args.maker.now m) c.in_ok-new.new.items,
    )

pub returns-clause-served : goal.returns-clause-served
returns-clause-served g c =
    let module_of : Mapping → ModuleView = g.M.ModuleMaker.module_of c.args.maker.now in
    let starts : StartsAt module_of = λ m. g.met.M.ModuleMaker.start_is c.args.maker.now m in
    let mappings = c.in_ok-new.new.items in
    let order : IsInOrder 0 mappings = subst (λ (list : List Mapping). IsInOrder 0 list) (sym c.in_ok-new.ensures.value) c.in_ok-new.ensures.ordered in
    ap (λ view. view.modules) c.in_ok-unwinder.ensures.made.0
    ∙ ap (λ added. with_modules added []) (c.in_ok-modules.ensures ∙ ap (map module_of) c.as_slice.ensures.value)
    ∙ modules-loaded module_of starts mappings [] order

pub invariant_of-result-2 : goal.invariant_of-result-2
invariant_of-result-2 g c =
    let module_of : Mapping → ModuleView = g.M.ModuleMaker.module_of c.args.maker.now in
    let starts : StartsAt module_of = λ m. g.met.M.ModuleMaker.start_is c.args.maker.now m in
    let mappings = c.in_ok-new.new.items in
    let order : IsInOrder 0 mappings = subst (λ (list : List Mapping). IsInOrder 0 list) (sym c.in_ok-new.ensures.value) c.in_ok-new.ensures.ordered in (
      order,
      ap greatest_end (
          ap (λ view. view.modules) c.in_ok-unwinder.ensures.made.0
          ∙ ap (λ added. with_modules added []) (c.in_ok-modules.ensures ∙ ap (map module_of) c.as_slice.ensures.value)
          ∙ modules-loaded module_of starts mappings [] order)
          ∙ greatest-mapped module_of (λ m. g.met.M.ModuleMaker.end_is c.args.maker.now m) mappings,
    )
