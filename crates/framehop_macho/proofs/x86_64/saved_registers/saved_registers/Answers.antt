use Rattle.std.proofs.Common.{◌-◌, ◌+◌, length, arith, sym, ◌∙◌}
use Rattle.framehop_macho.specs.SavedRegisters.{saved_registers, six}
use Rattle.framehop_macho.proofs.Lists.{next-kept, next-none, last-found, last-none, beyond-none, list_count-same}
use Rattle.framehop_macho.proofs.x86_64.saved_registers.saved_registers.Goals as goal

pub returns-then-count-gt6-clause-exact : goal.returns-then-count-gt6-clause-exact
unfolding saved_registers
returns-then-count-gt6-clause-exact c = beyond-none c.args.count c.args.rank six (omega arith)

pub returns-in_err-pop_at-clause-exact : goal.returns-in_err-pop_at-clause-exact
unfolding saved_registers
returns-in_err-pop_at-clause-exact c =
    let kept = c.loop-place.invariant in
    let block = c.list_count-block.ensures in
    let saved = c.loop-place.saved.items in
    let pool = c.loop-place.pool.items in
    let place = c.loop-place.place in
    let after = c.args.count - (place + 1) in
    rw c.from_residual.ensures
    (sym kept.found ∙ next-none saved pool (c.args.count - place) after c.loop-place.rest c.list_count-block.result
    (omega (arith, c.loop-place-test.true)) (list_count-same _ _ after (length pool - 1)
    c.list_count-block.result block.exact (omega arith) (omega (arith, kept.pool))) block.some
    (sym c.in_err-pop_at.ensures.value))

pub loop-place-preserved : goal.loop-place-preserved
loop-place-preserved c =
    let kept = c.loop-place.invariant in
    let block = c.list_count-block.ensures in
    let saved = c.loop-place.saved.items in
    let pool = c.loop-place.pool.items in
    let place = c.loop-place.place in
    let after = c.args.count - (place + 1) in
    record {
      pool = omega (arith, kept.pool, c.in_ok-pop_at.ensures.len);
      saved = omega (arith, kept.saved, c.push.ensures.len);
      found = next-kept saved pool _ _ c.in_ok-pop_at.field-0 (c.args.count - place) after c.loop-place.rest
          c.list_count-block.result _ (omega (arith, c.loop-place-test.true))
          (list_count-same _ _ after (length pool - 1) c.list_count-block.result block.exact (omega arith)
          (omega (arith, kept.pool))) block.some c.in_ok-pop_at.ensures.value c.push.ensures.items
          c.in_ok-pop_at.ensures.items kept.found;
    }

pub returns-then-rest-eq0-clause-exact : goal.returns-then-rest-eq0-clause-exact
unfolding saved_registers
returns-then-rest-eq0-clause-exact c =
    let kept = c.loop-place.invariant in
    sym kept.found ∙ last-found c.loop-place.saved.items c.loop-place.pool.items (c.args.count - c.loop-place.place) c.loop-place.rest (omega (arith, c.loop-place-test.false)) c.if-rest-eq0.true

pub returns-else-rest-eq0-clause-exact : goal.returns-else-rest-eq0-clause-exact
unfolding saved_registers
returns-else-rest-eq0-clause-exact c =
    let kept = c.loop-place.invariant in
    sym kept.found ∙ last-none c.loop-place.saved.items c.loop-place.pool.items (c.args.count - c.loop-place.place)
    c.loop-place.rest (omega (arith, c.loop-place-test.false)) (omega (arith, c.if-rest-eq0.false))
