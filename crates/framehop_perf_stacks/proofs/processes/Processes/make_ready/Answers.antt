use Rattle.std.proofs.Common.{ℕ, inl, sym, subst, arith}
use Rattle.framehop_perf_stacks.specs.Processes.{IsServed, IsFit}
use Rattle.framehop_perf_stacks.proofs.NumberedLemmas.{earlier-later, exchange-leads-if}
use Rattle.framehop_perf_stacks.proofs.ServedLemmas.{served-later, fit-new}
use Rattle.framehop_perf_stacks.proofs.processes.Processes.make_ready.Goals as goal

pub process_with-requires-clause-modules : goal.process_with-requires-clause-modules
process_with-requires-clause-modules g c =
    let module_of = g.M.ModuleMaker.module_of c.args.maker.now in
    let met : IsServed module_of (λ view. g.U.Unwinder.is_sound view c.requires.0) c.met.new.self.ready c.met.new.self.generations =
    rw c.met.ensures.ready (served-later module_of _ _ _ _ c.met.ensures.drawn.0 c.requires.1) in
    c.make_room-near.ensures.fits module_of c.requires.0 met

pub returns-clause-served : goal.returns-clause-served
returns-clause-served g c = λ cache served.
    let module_of = g.M.ModuleMaker.module_of c.args.maker.now in
    let room = c.make_room-near.new.self in
    let met : IsServed module_of (λ view. g.U.Unwinder.is_sound view cache) c.met.new.self.ready c.met.new.self.generations =
    rw c.met.ensures.ready (served-later module_of _ _ _ _ c.met.ensures.drawn.0 served) in
    let before = c.make_room-near.ensures.served module_of cache met in
    let drawn = c.in_ok-process.ensures.drawn in
    let one = drawn.1 in
    let fit = fit-new module_of (λ view. g.U.Unwinder.is_sound view cache) room.ready room.generations c.in_ok-process.process
    c.in_ok-process.ensures.served drawn.0 before in
    c.in_ok-keep.ensures.served module_of cache (served-later module_of _ _ _ _ (omega (arith, one)) before)
    (subst (λ (next : ℕ). IsFit module_of (λ view. g.U.Unwinder.is_sound view cache) room.ready next c.in_ok-process.process) (sym one) fit)

pub process_with-requires-clause-exchange : goal.process_with-requires-clause-exchange
process_with-requires-clause-exchange g c =
    let mine = c.met.new.self in
    exchange-leads-if mine.by_pid mine.ready mine.latest c.in_ok-mapped.mapped.version c.in_ok-mapped.mapped.mappings c.make_room-near.result
    c.exchange_for-exchange.result mine.same mine.made (inl (c.args.pid, c.in_ok-mapped.ensures.met)) c.make_room-near.ensures.latest
    c.exchange_for-exchange.ensures

pub invariant_of-self-clause-drawn : goal.invariant_of-self-clause-drawn
invariant_of-self-clause-drawn g c = λ version mappings told number known tells.
    let low = c.make_room-near.new.self.drawn version mappings told number known tells in
    let more = c.process_with.ensures.never_back.0 in
    omega (arith, low, more)

pub invariant_of-self-clause-earlier : goal.invariant_of-self-clause-earlier
invariant_of-self-clause-earlier g c =
    let room = c.make_room-near.new.self in
    earlier-later room.ready room.generations c.process_with.new.generations c.process_with.ensures.never_back.0 room.earlier
