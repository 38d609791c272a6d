use Rattle.std.proofs.Common.{ap, sym, ◌∙◌, subst, List}
use Rattle.framehop.specs.Modules.{greatest_end}
use Rattle.framehop_processes.specs.declared.mapping.Mapping.{Mapping}
use Rattle.framehop_processes.specs.Mappings.{IsInOrder, greatest_end_of}
use Rattle.framehop_processes.specs.Process.{ProcessView}
use Rattle.framehop_processes.proofs.MappingLemmas.{greatest-last}
use Rattle.framehop_processes.proofs.process.Process.greatest_end.Goals as goal

pub returns-in-Some : goal.returns-in-Some
returns-in-Some g c =
    let items = c.as_slice.ensures.value in
    let order = subst (λ (l : List Mapping). IsInOrder 0 l) (sym items) c.self.invariant.0 in
    sym (greatest-last c.as_slice.result.now c.in-Some.mapping.now order c.in-Some.ensures.value)
    ∙ ap greatest_end_of items
    ∙ sym c.self.invariant.1
    ∙ ap (λ (p : ProcessView). greatest_end p.unwinder.modules) c.self.view_is
