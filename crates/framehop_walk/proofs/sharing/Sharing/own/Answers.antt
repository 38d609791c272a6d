use Rattle.std.proofs.Common.{◌≡◌, ◌-◌, ◌++◌, ◌∷◌, [], true, false, length, get_or, refl, ap, ◌∙◌, rules, arith}
use Rattle.framehop.specs.declared.session.Command.TheVariants.{Clone}
use Rattle.framehop_walk.specs.Sharing.{plan_of}
use Rattle.framehop_walk.proofs.Places.{get-default, counted-some, own-counted, own-size}
use Rattle.framehop_walk.proofs.Plans.{owns-alone, owns-copy}
use Rattle.framehop_walk.proofs.sharing.Sharing.own.Goals as goal

pub returns-then-not-is_shared-clause-owns : goal.returns-then-not-is_shared-clause-owns
returns-then-not-is_shared-clause-owns g c =
    let no : c.is_shared.result ≡ false = search rules in
    owns-alone (plan_of c.args.self.now) (plan_of c.args.self.now) c.args.unwinder c.place_of-place.result refl c.place_of-place.ensures (c.is_shared.ensures.alone no)

pub overflow_sub-index_mut : goal.overflow_sub-index_mut
overflow_sub-index_mut g c =
    let yes : c.is_shared.result ≡ true = search rules in
    let counts = c.args.self.now.counts.items in
    let some = counted-some c.args.self.now.places.items counts c.requires c.args.unwinder c.place_of-place.result (c.is_shared.ensures.shared yes) c.place_of-place.ensures in
    let value : c.index_mut.result.now ≡ get_or counts c.place_of-place.result 0 =
    c.index_mut.ensures.value ∙ get-default counts c.place_of-place.result c.index_mut.result.now 0 some.2 in
    omega (arith, value, some.0)

pub returns-clause-counted : goal.returns-clause-counted
returns-clause-counted g c =
    let yes : c.is_shared.result ≡ true = search rules in
    let copy : c.len-copy.result ≡ length c.args.self.now.counts.items = search rules in
    own-counted c.args.self.now.places.items c.args.self.now.counts.items c.requires c.args.unwinder c.place_of-place.result c.index_mut.result.now c.len-copy.result
    c.push.new.self.items (c.is_shared.ensures.shared yes) c.place_of-place.ensures c.index_mut.ensures.value copy c.in_ok-push.ensures.items

pub returns-clause-owns : goal.returns-clause-owns
returns-clause-owns g c =
    let yes : c.is_shared.result ≡ true = search rules in
    let copy : c.len-copy.result ≡ length c.args.self.now.counts.items = search rules in
    owns-copy (plan_of c.args.self.now) _ c.args.unwinder c.len-copy.result (c.is_shared.ensures.shared yes) copy refl
    (own-size c.args.self.now.counts.items c.push.new.self.items c.place_of-place.result (c.index_mut.result.now - 1) c.in_ok-push.ensures.items)
    (c.in_ok-push-2.ensures.items ∙ ap (λ p. c.args.self.now.commands.items ++ Clone p ∷ []) c.place_of-place.ensures) refl
