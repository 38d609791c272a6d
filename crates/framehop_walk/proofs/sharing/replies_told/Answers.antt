use Rattle.std.proofs.Common.{◌≡◌, [], ◌∷◌, ◌++◌, map, sym, ap, ◌∙◌, rules}
use Rattle.std.proofs.lemmas.List.{map-append, append-nil, nil_from_length}
use Rattle.std.specs.Vec.Iter.{into_iter_items}
use Rattle.framehop.specs.SessionView.{reply_view}
use Rattle.framehop_walk.specs.Sharing.{listed, tell}
use Rattle.framehop_walk.proofs.Plans.{told-more, tell-none}
use Rattle.framehop_walk.proofs.sharing.replies_told.Goals as goal

pub loop-one-preserved-in-Continue-1 : goal.loop-one-preserved-in-Continue-1
loop-one-preserved-in-Continue-1 g c =
    let taken : into_iter_items c.loop-one.one-iterator ≡ c.in-Some.one ∷ into_iter_items c.next.new.self = search rules in
    let front = map reply_view c.loop-one.all.items in
    let left = map reply_view (into_iter_items c.next_reply.new.left) in (
      ap (λ all. all ++ tell (into_iter_items c.next.new.self) left)
          (ap (map reply_view) c.in_ok-push.ensures.items ∙ map-append reply_view c.loop-one.all.items (c.in-Some-next_reply.reply ∷ []))
          ∙ told-more front (reply_view c.in-Some-next_reply.reply ∷ []) (map reply_view (into_iter_items c.loop-one.left)) left _ c.in-Some.one (into_iter_items c.next.new.self)
          (ap (λ o. map reply_view (listed o)) (sym c.in-Some-next_reply.is) ∙ c.next_reply.ensures.reply) c.next_reply.ensures.left
          (ap (λ ts. front ++ tell ts (map reply_view (into_iter_items c.loop-one.left))) (sym taken) ∙ c.loop-one.invariant.0),
      search rules,
    )

pub loop-one-preserved : goal.loop-one-preserved
loop-one-preserved g c =
    let taken : into_iter_items c.loop-one.one-iterator ≡ c.in-Some.one ∷ into_iter_items c.next.new.self = search rules in
    let front = map reply_view c.loop-one.all.items in
    let left = map reply_view (into_iter_items c.next_reply.new.left) in (
      ap (λ all. all ++ tell (into_iter_items c.next.new.self) left) (sym (append-nil front))
          ∙ told-more front [] (map reply_view (into_iter_items c.loop-one.left)) left _ c.in-Some.one (into_iter_items c.next.new.self)
          (ap (λ o. map reply_view (listed o)) (sym c.in_default.is) ∙ c.next_reply.ensures.reply) c.next_reply.ensures.left
          (ap (λ ts. front ++ tell ts (map reply_view (into_iter_items c.loop-one.left))) (sym taken) ∙ c.loop-one.invariant.0),
      search rules,
    )

pub returns : goal.returns
returns g c =
    let none : into_iter_items c.loop-one.one-iterator ≡ [] = nil_from_length _ (sym c.loop-one.invariant.1 ∙ c.in-None.ensures.steps.0) in
    let front = map reply_view c.loop-one.all.items in
    sym (append-nil front)
    ∙ ap (λ t. front ++ t) (sym (tell-none (map reply_view (into_iter_items c.loop-one.left))))
    ∙ ap (λ ts. front ++ tell ts (map reply_view (into_iter_items c.loop-one.left))) (sym none)
    ∙ c.loop-one.invariant.0
