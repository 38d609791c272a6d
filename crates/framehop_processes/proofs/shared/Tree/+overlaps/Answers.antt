use Rattle.std.proofs.Common.{◌≡◌, List, ◌∷◌, ◌++◌, rules, arith, length-append, subst}
use Rattle.framehop_processes.specs.Mappings.{IsInOrder}
use Rattle.framehop_processes.specs.declared.mapping.Mapping.{Mapping}
use Rattle.framehop_processes.proofs.ApartLemmas.{overlaps-before, overlaps-after}
use Rattle.framehop_processes.proofs.MappingLemmas.{order-before, order-after}
use Rattle.framehop_processes.proofs.shared.Tree.+overlaps.Goals as goal

pub overlaps-requires : goal.overlaps-requires
overlaps-requires t c =
    let whole : c.args.self.now ≡ c.in-Fork.before.value ++ c.in-Fork.mapping ∷ c.in-Fork.after.value = search rules in
    let order = subst (λ (list : List Mapping). IsInOrder 0 list) whole c.requires in
    let there : c.in-Fork.before.value ≡ c.deref.result.now = search rules in (
      grind (arith, length-append),
      subst (λ (list : List Mapping). IsInOrder 0 list) there (order-before 0 c.in-Fork.mapping c.in-Fork.before.value c.in-Fork.after.value order),
    )

pub returns-then-new-mapping : goal.returns-then-new-mapping
returns-then-new-mapping t c =
    let whole : c.args.self.now ≡ c.in-Fork.before.value ++ c.in-Fork.mapping ∷ c.in-Fork.after.value = search rules in
    let order = subst (λ (list : List Mapping). IsInOrder 0 list) whole c.requires in
    let is = overlaps-before c.args.new c.in-Fork.mapping c.in-Fork.before.value c.in-Fork.after.value order (omega arith) in
    search (rules, is, whole)

pub overlaps-requires-then-mapping-new : goal.overlaps-requires-then-mapping-new
overlaps-requires-then-mapping-new t c =
    let whole : c.args.self.now ≡ c.in-Fork.before.value ++ c.in-Fork.mapping ∷ c.in-Fork.after.value = search rules in
    let order = subst (λ (list : List Mapping). IsInOrder 0 list) whole c.requires in
    let there : c.in-Fork.after.value ≡ c.deref-then-mapping-new.result.now = search rules in (
      grind (arith, length-append),
      subst (λ (list : List Mapping). IsInOrder 0 list) there (order-after 0 c.in-Fork.mapping c.in-Fork.before.value c.in-Fork.after.value order),
    )

pub returns-then-mapping-new : goal.returns-then-mapping-new
returns-then-mapping-new t c =
    let whole : c.args.self.now ≡ c.in-Fork.before.value ++ c.in-Fork.mapping ∷ c.in-Fork.after.value = search rules in
    let order = subst (λ (list : List Mapping). IsInOrder 0 list) whole c.requires in
    let is = overlaps-after c.args.new c.in-Fork.mapping c.in-Fork.before.value c.in-Fork.after.value order (omega arith) in
    search (rules, is, whole)
