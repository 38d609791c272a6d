use Rattle.std.proofs.Common.{◌==◌, ◌≤◌, ◌+◌, cond, length, Some, ap, sym, ◌∙◌, arith}
use Rattle.std.specs.Cmp.{unsigned_tied}
use Rattle.std.specs.Ordering.{nat_cmp}
use Rattle.std.specs.BTreeMap.{get}
use Rattle.framehop_recording.proofs.EventLemmas.{word-there, id-entered}
use Rattle.framehop_recording.proofs.events.add_ids.Goals as goal

pub loop-id-preserved : goal.loop-id-preserved
loop-id-preserved c =
    let l = c.loop-id in
    let ids = c.args.ids.now in
    let there = word-there ids l.at c.in-Some.id (sym c.in-Some.ensures) in
    let within : l.at + 8 ≤ length ids = there.0 in (
      omega (arith, within),
      λ id. id-entered _ l.at (length ids) _ _ _ _ within (l.invariant.1 id)
          (c.in_ok-insert.ensures.updates.0 id
          ∙ ap (λ same. cond same (Some c.args.event) (get nat_cmp l.by_id id)) (unsigned_tied c.in-Some.id id ∙ ap (λ word. word == id) (sym there.1))),
    )
