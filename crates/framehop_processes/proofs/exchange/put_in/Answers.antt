use Rattle.std.proofs.Common.{◌≡◌, List, length, map, rules, refl, ap, sym, ◌∙◌, subst}
use Rattle.std.specs.List.{insert}
use Rattle.framehop.specs.Modules.{ModuleView, with_module}
use Rattle.framehop_processes.specs.declared.mapping.Mapping.{Mapping}
use Rattle.framehop_processes.specs.Mappings.{ending_by}
use Rattle.framehop_processes.specs.Process.{StartsAt}
use Rattle.framehop_processes.proofs.ApartLemmas.{is-put, module-put}
use Rattle.framehop_processes.proofs.exchange.put_in.Goals as goal

pub returns-clause-mapped : goal.returns-clause-mapped
returns-clause-mapped g c =
    let ms = c.args.mappings.now.items in
    let before = c.split_ending_by.result.0.now in
    let all = c.as_slice.ensures.value in
    let inserted : c.insert.new.self.items ≡ insert ms (length before) c.args.new = search rules in
    inserted
    ∙ is-put c.args.new c.requires.address ms before c.split_ending_by.result.1.now (sym all ∙ c.split_ending_by.ensures.whole)
    (subst (λ (l : List Mapping). before ≡ ending_by c.args.new.start l) all c.split_ending_by.ensures.before) c.requires.ordered c.requires.apart (length before) refl

pub returns-clause-modules : goal.returns-clause-modules
returns-clause-modules g c =
    let module_of : Mapping → ModuleView = g.M.ModuleMaker.module_of c.args.maker.now in
    let starts : StartsAt module_of = λ m. g.met.M.ModuleMaker.start_is c.args.maker.now m in
    let ms = c.args.mappings.now.items in
    let before = c.split_ending_by.result.0.now in
    let all = c.as_slice.ensures.value in
    let inserted : c.insert.new.self.items ≡ insert ms (length before) c.args.new = search rules in
    let added = c.in_ok-add_one.ensures.added in (
      added.0
          ∙ ap (with_module (module_of c.args.new)) c.requires.modules
          ∙ module-put c.args.new c.requires.address ms before c.split_ending_by.result.1.now (sym all ∙ c.split_ending_by.ensures.whole)
          (subst (λ (l : List Mapping). before ≡ ending_by c.args.new.start l) all c.split_ending_by.ensures.before) c.requires.ordered c.requires.apart (length before) refl
          module_of starts
          ∙ ap (map module_of) (sym inserted),
      added.1,
    )
