use Rattle.std.proofs.Common.{◌≡◌, ◌<◌, List, length, remove, sym, subst, rules}
use Rattle.framehop.specs.Modules.{ModuleView}
use Rattle.framehop.proofs.ModuleLemmas.{AreInOrder-removed, starts_of-removed}
use Rattle.framehop.proofs.module_list.ModuleList.remove.Goals as goal

pub invariant_of-self : goal.invariant_of-self
invariant_of-self g c =
    let modules = c.self.inside.modules.items in
    let index = c.args.index in
    let items : c.remove.new.self.items ≡ remove modules index = search rules in
    let starts : c.remove-2.new.self.items ≡ remove c.self.inside.starts.items index = search rules in
    let within = subst (λ (list : List ModuleView). index < length list) (sym c.self.view_is) c.requires in
    (rw items (AreInOrder-removed modules index c.self.invariant.0 within (search rules)), rw (starts, items, c.self.invariant.1) (sym (starts_of-removed modules index)))
