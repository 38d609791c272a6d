use Rattle.std.proofs.Common.{◌≡◌, ◌+◌, ◌-◌, inl, inr, sym, ◌∙◌, arith}
use Rattle.framehop_core.specs.X86_64.Ordering.{ordering, eight, exchanges}
use Rattle.framehop_core.proofs.Orderings.{exchanged_from-more, exchanged_from-all}
use Rattle.framehop_core.proofs.x86_64.register_ordering.decode.Goals as goal
use Rattle.framehop_core.proofs.x86_64.register_ordering.decode.Goals.{else-loop-place-test, then-loop-place-test+then-rest-eq0}

pub loop-place-preserved : goal.loop-place-preserved
loop-place-preserved c =
    let place = c.loop-place.place in
    let more = exchanged_from-more c.loop-place.registers c.exchange.new.registers (exchanges 8 c.args.encoded_ordering eight) place (8 - (place + 1)) (8 - place) c.loop-place.rest c.from.result (omega arith) (omega arith) c.from.ensures c.exchange.ensures c.loop-place.invariant.1 in
    (more.0 ∙ c.loop-place.invariant.0, more.1)

pub returns : goal.returns
unfolding ordering
returns c =
    let regs = c.loop-place.registers in
    let all : regs ≡ exchanges 8 c.args.encoded_ordering eight =
    sym (exchanged_from-all regs c.loop-place.place (8 - c.loop-place.place) c.loop-place.rest (omega arith) (elim c.loop-place-test.branch [ else-loop-place-test w ↦ inl (omega arith) | then-loop-place-test+then-rest-eq0 w ↦ inr (omega arith) ])) ∙ c.loop-place.invariant.1 in
    c.truncate.ensures.items ∙ rw (c.from-2.ensures, c.from-registers.ensures.0, all)
