use Rattle.std.proofs.Common.{List, map, ap, sym, ◌∙◌, subst}
use Rattle.framehop.specs.Modules.{ModuleView, greatest_end}
use Rattle.framehop_processes.specs.declared.mapping.Mapping.{Mapping}
use Rattle.framehop_processes.specs.Mappings.{IsInOrder, left_by}
use Rattle.framehop_processes.proofs.ApartLemmas.{order-left}
use Rattle.framehop_processes.proofs.MappingLemmas.{with_mapping-order, greatest-mapped}
use Rattle.framehop_processes.proofs.process.Process.one_exchanged.Goals as goal

pub invariant_of-result : goal.invariant_of-result
invariant_of-result g c =
    let module_of : Mapping → ModuleView = g.M.ModuleMaker.module_of c.args.maker.now in
    let done = c.in_ok-exchange_one.ensures in (
      subst (λ (list : List Mapping). IsInOrder 0 list) (sym done.mapped)
          (with_mapping-order c.args.come (left_by c.args.gone c.self.inside.mappings.items) c.requires.address
          (order-left c.args.gone c.self.inside.mappings.items c.self.invariant.0)),
      ap greatest_end (done.modules.0 ∙ ap (map module_of) (sym done.mapped))
          ∙ greatest-mapped module_of (λ m. g.met.M.ModuleMaker.end_is c.args.maker.now m) c.exchange_one.new.mappings.items,
    )
