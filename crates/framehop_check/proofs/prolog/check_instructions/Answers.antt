use Rattle.std.proofs.Common.{◌+◌, ◌++◌, List, length, pos, refl, sym, ap, ◌∙◌, append_assoc, arith}
use Rattle.framehop_pe.specs.Info.{read_by}
use Rattle.framehop_check.specs.declared.check.Item.{Item}
use Rattle.framehop_check.specs.Check.{items_from, alarms_at, notes_at, pass_after, alarms_from, notes_from}
use Rattle.framehop_check.specs.Counts.{counted}
use Rattle.framehop_check.specs.Prolog.{prolog_item, prolog_items}
use Rattle.framehop_check.proofs.CountLemmas.{counted-step}
use Rattle.framehop_check.proofs.CheckLemmas.{follows}
use Rattle.framehop_check.proofs.prolog.check_instructions.Goals as goal

pub loop-at-init : goal.loop-at-init
unfolding prolog_items
loop-at-init c = (length c.args.code.now, omega arith, rw c.first_pass-pass.ensures refl, rw c.first_pass-pass.ensures refl, rw c.first_pass-pass.ensures refl)

pub loop-at-preserved : goal.loop-at-preserved
loop-at-preserved c =
    let inv = c.loop-at.invariant in
    let item = prolog_item (read_by c.args.info.now) c.args.begin c.args.code.now in
    let next = follows item (length c.args.code.now) inv.0 c.loop-at.at c.in-Some.item
    inv.1 c.loop-at-test.true (sym c.in-Some.ensures.exact) c.in-Some.ensures.sized.0 in
    let rest = items_from item (length c.args.code.now) next.fewer (c.loop-at.at + c.in-Some.item.effect.size) in (
      next.fewer,
      next.enough,
      rw (c.in_ok-pass.ensures.alarms, c.in_ok-pass.ensures.pass)
          (append_assoc c.loop-at.report.alarms.items (alarms_at (pos 8) c.loop-at.pass c.in-Some.item) (alarms_from (pos 8) (pass_after c.loop-at.pass c.in-Some.item) rest)
          ∙ (ap (λ (items : List Item). c.loop-at.report.alarms.items ++ alarms_from (pos 8) c.loop-at.pass items) (sym next.items) ∙ inv.2)),
      rw (c.in_ok-pass.ensures.notes, c.in_ok-pass.ensures.pass)
          (append_assoc c.loop-at.report.notes.items (notes_at c.loop-at.pass c.in-Some.item) (notes_from (pass_after c.loop-at.pass c.in-Some.item) rest)
          ∙ (ap (λ (items : List Item). c.loop-at.report.notes.items ++ notes_from c.loop-at.pass items) (sym next.items) ∙ inv.3)),
      rw (c.in_ok-pass.ensures.counts, c.in_ok-pass.ensures.pass)
          (counted-step c.loop-at.report.counts c.loop-at.pass c.in-Some.item rest
          ∙ (ap (counted c.loop-at.report.counts c.loop-at.pass) (sym next.items) ∙ inv.4)),
    )
