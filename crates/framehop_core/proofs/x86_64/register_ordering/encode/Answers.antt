use Rattle.std.proofs.Common.{arith, refl}
use Rattle.framehop_core.specs.declared.x86_64.unwindregs.Reg.TheVariants.{RAX}
use Rattle.framehop_core.specs.Laws.Orderings.{IsArrangement-number, IsArrangement-encoding}
use Rattle.framehop_core.proofs.Orderings.{Encodes-start, Encodes-place, Encodes-fits, Encodes-refused, IsEncoding-end}
use Rattle.framehop_core.proofs.x86_64.register_ordering.encode.Goals as goal

pub returns-then-registers-gt8-clause-exact : goal.returns-then-registers-gt8-clause-exact
returns-then-registers-gt8-clause-exact c =
    (λ e. cc, λ h. absurd (omega (arith, (IsArrangement-number c.args.registers.now h).2)))

pub loop-place-init : goal.loop-place-init
loop-place-init c = (omega arith, Encodes-start c.args.registers.now)

pub returns-in_err-digit-clause-exact : goal.returns-in_err-digit-clause-exact
returns-in_err-digit-clause-exact c = (
  λ some. let none = rw c.from_residual.ensures at some in cc,
  λ arrangement. absurd (Encodes-refused c.args.registers.now c.loop-place.order c.loop-place.place c.loop-place.encoded c.loop-place.scale RAX c.loop-place.invariant.0 (omega arith) (omega arith) c.loop-place.invariant.1 c.in_err-digit.ensures arrangement),
)

pub overflow_mul-encoded : goal.overflow_mul-encoded
overflow_mul-encoded c =
    let fits = Encodes-fits c.args.registers.now c.loop-place.order c.loop-place.place c.loop-place.encoded c.loop-place.scale RAX c.loop-place.invariant.0 (omega arith) (omega arith) c.loop-place.invariant.1 c.in_ok-digit.digit c.in_ok-digit.ensures.0 in
    omega arith

pub overflow_add-encoded : goal.overflow_add-encoded
overflow_add-encoded c =
    let fits = Encodes-fits c.args.registers.now c.loop-place.order c.loop-place.place c.loop-place.encoded c.loop-place.scale RAX c.loop-place.invariant.0 (omega arith) (omega arith) c.loop-place.invariant.1 c.in_ok-digit.digit c.in_ok-digit.ensures.0 in
    omega arith

pub overflow_mul-scale : goal.overflow_mul-scale
overflow_mul-scale c =
    let fits = Encodes-fits c.args.registers.now c.loop-place.order c.loop-place.place c.loop-place.encoded c.loop-place.scale RAX c.loop-place.invariant.0 (omega arith) (omega arith) c.loop-place.invariant.1 c.in_ok-digit.digit c.in_ok-digit.ensures.0 in
    omega arith

pub loop-place-preserved : goal.loop-place-preserved
loop-place-preserved c =
    Encodes-place c.args.registers.now c.loop-place.order c.loop-place.place c.loop-place.encoded c.loop-place.scale RAX c.loop-place.invariant.0 (omega arith) (omega arith) c.loop-place.invariant.1 c.exchange.new.registers c.in_ok-digit.digit c.in_ok-digit.ensures.0 c.in_ok-digit.ensures.1 c.exchange.ensures

pub returns-clause-exact : goal.returns-clause-exact
returns-clause-exact c =
    let done = IsEncoding-end c.args.registers.now _ c.loop-place.place c.loop-place.encoded c.loop-place.scale c.loop-place-test.false c.loop-place.invariant.1 in
    (λ _. IsArrangement-encoding _ _ _ done, λ _. refl)

pub returns-clause-encoding : goal.returns-clause-encoding
returns-clause-encoding c =
    IsEncoding-end c.args.registers.now _ c.loop-place.place c.loop-place.encoded c.loop-place.scale c.loop-place-test.false c.loop-place.invariant.1
