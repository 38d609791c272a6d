use Rattle.std.proofs.Common.{◌≡◌, ◌<◌, length, map, rules, ap, ◌∙◌}
use Rattle.std.specs.List.{list_any, remove}
use Rattle.framehop.specs.Modules.{ModuleView, with_module, has_start, without_module}
use Rattle.framehop_processes.specs.declared.mapping.Mapping.{Mapping}
use Rattle.framehop_processes.specs.Mappings.{left_by, overlaps, with_mapping}
use Rattle.framehop_processes.specs.Process.{StartsAt}
use Rattle.framehop_processes.proofs.ApartLemmas.{module-exchanged}
use Rattle.framehop_processes.proofs.exchange.exchange_one.Goals as goal

pub returns-clause-modules : goal.returns-clause-modules
returns-clause-modules g c =
    let module_of : Mapping → ModuleView = g.M.ModuleMaker.module_of c.args.maker.now in
    let starts : StartsAt module_of = λ m. g.met.M.ModuleMaker.start_is c.args.maker.now m in
    let ms = c.args.mappings.now.items in
    let within : c.in-Some.index < length ms = search rules in
    let left : remove ms c.in-Some.index ≡ left_by c.args.gone ms = search rules in
    let m = c.index.result.now in
    let parts = module-exchanged module_of starts c.args.new ms c.in-Some.index m c.requires.address c.requires.ordered within c.index.ensures
    (ap (list_any (overlaps c.args.new)) left ∙ c.requires.apart) in
    let done = c.remove_one.ensures (ap (has_start m.start) c.requires.modules ∙ parts.0) in
    let added = c.in_ok-add_one.ensures.added in (
      added.0
          ∙ ap (with_module (module_of c.args.new)) (done.0 ∙ ap (without_module m.start) c.requires.modules)
          ∙ parts.1
          ∙ ap (λ others. map module_of (with_mapping c.args.new others)) left,
      added.1,
    )
