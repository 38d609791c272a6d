use Rattle.std.proofs.Common.{◌≡◌, ◌≤◌, ◌∙◌, length}
use Rattle.std.proofs.lemmas.List.{length-map}
use Rattle.framehop.specs.Modules.{AreInOrder, starts_of}
use Rattle.framehop.proofs.ModuleLemmas.{starts-in-order, point-of-starts, taken-starting_by, dropped-starting_above}
use Rattle.framehop.proofs.module_list.ModuleList.place_after.Goals as goal

pub count_up_to-requires : goal.count_up_to-requires
count_up_to-requires g c =
    let modules = c.args.self.now in
    let ordered : AreInOrder modules = rw (← c.self.view_is) c.self.invariant.0 in
    let starts : c.self.inside.starts.items ≡ starts_of modules = rw (← c.self.view_is) c.self.invariant.1 in
    rw (c.as_slice.ensures.value ∙ starts) (starts-in-order modules ordered)

pub returns-clause-point : goal.returns-clause-point
returns-clause-point g c =
    let modules = c.args.self.now in
    let starts : c.self.inside.starts.items ≡ starts_of modules = rw (← c.self.view_is) c.self.invariant.1 in
    let read = c.as_slice.ensures.value ∙ starts in
    let all : length (starts_of modules) ≡ length modules = length-map modules (λ m. m.start) in
    let within : c.count_up_to.result ≤ length modules = rw all at rw read at c.count_up_to.ensures.within in
    point-of-starts c.args.address modules c.count_up_to.result within (rw read at c.count_up_to.ensures.point)

pub returns-clause-before : goal.returns-clause-before
returns-clause-before g c = taken-starting_by c.args.address _ _ (returns-clause-point g c)

pub returns-clause-after : goal.returns-clause-after
returns-clause-after g c = dropped-starting_above c.args.address _ _ (returns-clause-point g c)
