use Rattle.std.proofs.Common.{◌≡◌, ◌≤◌, true, false, List, length, insert, sym, subst, rules}
use Rattle.std.specs.List.Sorted.{IsPartitionPoint}
use Rattle.framehop.specs.Modules.{ModuleView, starts_by}
use Rattle.framehop.proofs.ModuleLemmas.{AreInOrder-inserted, starts_of-inserted}
use Rattle.framehop.proofs.module_list.ModuleList.insert.Goals as goal

pub invariant_of-self-in_default : goal.invariant_of-self-in_default
invariant_of-self-in_default g c =
    let modules = c.self.inside.modules.items in
    let index = c.place_after-index.result in
    let items : c.insert-2.new.self.items ≡ insert modules index c.args.module = search rules in
    let starts : c.insert.new.self.items ≡ insert c.self.inside.starts.items index c.args.module.start = search rules in
    let within = subst (λ (list : List ModuleView). index ≤ length list) (sym c.self.view_is) c.place_after-index.ensures.within in
    let point = subst (λ (list : List ModuleView). IsPartitionPoint (λ m. starts_by c.args.module.start m ≡ true) (λ m. starts_by c.args.module.start m ≡ false) list index) (sym c.self.view_is) (rw c.start-start.ensures at c.place_after-index.ensures.point) in
    (rw items (AreInOrder-inserted modules index c.args.module c.self.invariant.0 within point), rw (starts, items, c.self.invariant.1) (sym (starts_of-inserted modules index c.args.module)))
