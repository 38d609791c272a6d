use Rattle.std.proofs.Common.{◌≡◌, ◌<◌, ◌≤◌, ◌+◌, ◌++◌, ◌∷◌, [], length, get_or, set, refl, ap, ◌∙◌, rules, arith}
use Rattle.framehop.specs.declared.session.Command.TheVariants.{Clone}
use Rattle.framehop_walk.specs.Sharing.{plan_of}
use Rattle.framehop_walk.specs.declared.sharing.Told.TheVariants.{Made}
use Rattle.framehop_walk.proofs.Places.{get-default, counted-some, counted-few, on_ok_2}
use Rattle.framehop_walk.proofs.Plans.{shares, shares-none}
use Rattle.framehop_walk.proofs.sharing.Sharing.share.Goals as goal

pub returns-then-unwinder-number : goal.returns-then-unwinder-number
returns-then-unwinder-number g c =
    let past : length c.args.self.now.places.items ≤ c.args.unwinder = search rules in
    on_ok_2 c.push.result (λ commands told.
    shares-none (plan_of c.args.self.now) (plan_of c.push.new.self) c.args.unwinder past c.push.ensures.places c.push.ensures.counts
    (commands ∙ ap (λ p. c.args.self.now.commands.items ++ Clone p ∷ []) c.place_of-place.ensures) told)
    c.push.ensures.commands c.push.ensures.told

pub index_mut-requires : goal.index_mut-requires
index_mut-requires g c =
    let within : c.args.unwinder < length c.args.self.now.places.items = search rules in
    let some = counted-some c.args.self.now.places.items c.args.self.now.counts.items c.requires c.args.unwinder c.place_of-place.result within c.place_of-place.ensures in
    omega (arith, some.2, c.args.self.now.counts.ok.0)

pub overflow_add-index_mut : goal.overflow_add-index_mut
overflow_add-index_mut g c =
    let within : c.args.unwinder < length c.args.self.now.places.items = search rules in
    let counts = c.args.self.now.counts.items in
    let some = counted-some c.args.self.now.places.items counts c.requires c.args.unwinder c.place_of-place.result within c.place_of-place.ensures in
    let value : c.index_mut.result.now ≡ get_or counts c.place_of-place.result 0 =
    c.index_mut.ensures.value ∙ get-default counts c.place_of-place.result c.index_mut.result.now 0 some.2 in
    let few = counted-few c.args.self.now.places.items counts c.requires c.place_of-place.result some.2 in
    omega (arith, value, few, c.args.self.now.places.ok.0, c.args.self.now.places.small)

pub returns : goal.returns
returns g c =
    let within : c.args.unwinder < length c.args.self.now.places.items = search rules in
    let counts = c.args.self.now.counts.items in
    let some = counted-some c.args.self.now.places.items counts c.requires c.args.unwinder c.place_of-place.result within c.place_of-place.ensures in
    let value : c.index_mut.result.now ≡ get_or counts c.place_of-place.result 0 =
    c.index_mut.ensures.value ∙ get-default counts c.place_of-place.result c.index_mut.result.now 0 some.2 in
    let number : c.len-number.result ≡ length c.args.self.now.places.items = search rules in
    shares (plan_of c.args.self.now) _ c.args.unwinder within
    (c.in_ok-push.ensures.items ∙ ap (λ p. c.args.self.now.places.items ++ p ∷ []) c.place_of-place.ensures)
    (ap (λ n. set counts c.place_of-place.result (n + 1)) value ∙ ap (λ p. set counts p (get_or counts p 0 + 1)) c.place_of-place.ensures)
    refl
    (c.in_ok-push-2.ensures.items ∙ ap (λ n. c.args.self.now.told.items ++ Made n ∷ []) number)
