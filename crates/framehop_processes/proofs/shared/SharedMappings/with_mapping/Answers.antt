use Rattle.std.proofs.Common.{◌≡◌, List, rules, sym, subst}
use Rattle.framehop_processes.specs.Mappings.{IsInOrder, with_mapping}
use Rattle.framehop_processes.specs.declared.mapping.Mapping.{Mapping}
use Rattle.framehop_processes.proofs.MappingLemmas.{with_mapping-order}
use Rattle.framehop_processes.proofs.shared.SharedMappings.with_mapping.Goals as goal

pub invariant_of-result : goal.invariant_of-result
invariant_of-result c =
    let is : c.in_ok-tree.tree.value ≡ with_mapping c.args.new c.args.self.now = search rules in
    let order : IsInOrder 0 c.args.self.now = subst (λ (list : List Mapping). IsInOrder 0 list) c.self.view_is c.self.invariant in
    subst (λ (list : List Mapping). IsInOrder 0 list) (sym is) (with_mapping-order c.args.new c.args.self.now c.requires order)
