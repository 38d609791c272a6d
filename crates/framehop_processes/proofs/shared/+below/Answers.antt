use Rattle.std.proofs.Common.{◌≡◌, List, ◌∷◌, ◌++◌, rules, arith, length-append, subst}
use Rattle.framehop_processes.specs.Mappings.{IsInOrder}
use Rattle.framehop_processes.specs.declared.mapping.Mapping.{Mapping}
use Rattle.framehop_processes.proofs.MappingLemmas.{order-before, order-after, below-before, below-across}
use Rattle.framehop_processes.proofs.shared.+below.Goals as goal

pub below-requires : goal.below-requires
below-requires t c =
    let whole : c.args.tree.now.value ≡ c.in-Fork.before.value ++ c.in-Fork.mapping ∷ c.in-Fork.after.value = search rules in
    let order = subst (λ (list : List Mapping). IsInOrder 0 list) whole c.requires in
    (grind (arith, length-append), order-before c.args.address c.in-Fork.mapping c.in-Fork.before.value c.in-Fork.after.value order)

pub below-requires-in-Fork : goal.below-requires-in-Fork
below-requires-in-Fork t c =
    let whole : c.args.tree.now.value ≡ c.in-Fork.before.value ++ c.in-Fork.mapping ∷ c.in-Fork.after.value = search rules in
    let order = subst (λ (list : List Mapping). IsInOrder 0 list) whole c.requires in
    (grind (arith, length-append), order-after c.args.address c.in-Fork.mapping c.in-Fork.before.value c.in-Fork.after.value order)

pub returns-then-address-mapping : goal.returns-then-address-mapping
returns-then-address-mapping t c =
    let whole : c.args.tree.now.value ≡ c.in-Fork.before.value ++ c.in-Fork.mapping ∷ c.in-Fork.after.value = search rules in
    let order = subst (λ (list : List Mapping). IsInOrder 0 list) whole c.requires in
    let is = below-before c.args.address c.in-Fork.mapping c.in-Fork.before.value c.in-Fork.after.value order (omega arith) in
    search (rules, is, whole)

pub returns-in_ok-clone-in-Fork : goal.returns-in_ok-clone-in-Fork
returns-in_ok-clone-in-Fork t c =
    let whole : c.args.tree.now.value ≡ c.in-Fork.before.value ++ c.in-Fork.mapping ∷ c.in-Fork.after.value = search rules in
    let order = subst (λ (list : List Mapping). IsInOrder 0 list) whole c.requires in
    let is = below-across c.args.address c.in-Fork.mapping c.in-Fork.before.value c.in-Fork.after.value order (omega arith) in
    search (rules, is, whole)
