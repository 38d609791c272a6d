use Rattle.std.proofs.Common.{◌+◌, ◌++◌, List, length, refl, sym, ap, ◌∙◌, append_assoc, arith}
use Rattle.framehop_check.specs.declared.check.Item.{Item}
use Rattle.framehop_check.specs.Rows.{claim_at}
use Rattle.framehop_check.specs.Check.{item_at, items_from, items_of, all_of, alarms_at, notes_at, pass_after, alarms_from, notes_from}
use Rattle.framehop_check.specs.Counts.{counted}
use Rattle.framehop_check.proofs.CountLemmas.{counted-step}
use Rattle.framehop_check.proofs.CheckLemmas.{follows}
use Rattle.framehop_check.proofs.check.check_code.Goals as goal

pub loop-at-init : goal.loop-at-init
unfolding items_of all_of
loop-at-init g c = (length c.args.code.now, omega arith, rw c.first_pass-pass.ensures refl, rw c.first_pass-pass.ensures refl, rw c.first_pass-pass.ensures refl, refl)

pub loop-at-preserved : goal.loop-at-preserved
loop-at-preserved g c =
    let inv = c.loop-at.invariant in
    let next = follows (item_at g.C.Code.instruction (claim_at c.args.spans.now) c.args.start c.args.code.now) (length c.args.code.now) inv.0 c.loop-at.at c.in-Some.item
    inv.1 c.loop-at-test.true (sym c.in-Some.ensures.exact) c.in-Some.ensures.sized.0 in (
      next.fewer,
      next.enough,
      rw (c.in_ok-pass.ensures.alarms, c.in_ok-pass.ensures.pass)
          (append_assoc c.loop-at.report.alarms.items (alarms_at g.C.Code.entry c.loop-at.pass c.in-Some.item) (alarms_from g.C.Code.entry (pass_after c.loop-at.pass c.in-Some.item) (items_from (item_at g.C.Code.instruction (claim_at c.args.spans.now) c.args.start c.args.code.now) (length c.args.code.now) next.fewer (c.loop-at.at + c.in-Some.item.effect.size)))
          ∙ (ap (λ (items : List Item). c.loop-at.report.alarms.items ++ alarms_from g.C.Code.entry c.loop-at.pass items) (sym next.items) ∙ inv.2)),
      rw (c.in_ok-pass.ensures.notes, c.in_ok-pass.ensures.pass)
          (append_assoc c.loop-at.report.notes.items (notes_at c.loop-at.pass c.in-Some.item) (notes_from (pass_after c.loop-at.pass c.in-Some.item) (items_from (item_at g.C.Code.instruction (claim_at c.args.spans.now) c.args.start c.args.code.now) (length c.args.code.now) next.fewer (c.loop-at.at + c.in-Some.item.effect.size)))
          ∙ (ap (λ (items : List Item). c.loop-at.report.notes.items ++ notes_from c.loop-at.pass items) (sym next.items) ∙ inv.3)),
      rw (c.in_ok-pass.ensures.counts, c.in_ok-pass.ensures.pass)
          (counted-step c.loop-at.report.counts c.loop-at.pass c.in-Some.item (items_from (item_at g.C.Code.instruction (claim_at c.args.spans.now) c.args.start c.args.code.now) (length c.args.code.now) next.fewer (c.loop-at.at + c.in-Some.item.effect.size))
          ∙ (ap (counted c.loop-at.report.counts c.loop-at.pass) (sym next.items) ∙ inv.4)),
      sym next.all ∙ inv.5,
    )
