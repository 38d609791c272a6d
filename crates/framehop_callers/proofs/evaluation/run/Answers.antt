use Rattle.std.proofs.lemmas.Result.{err_from_is_err_and}
use Rattle.framehop_dwarf.specs.Evaluation.{Evaluation, State}
use Rattle.framehop_callers.proofs.Values.{out_of_operations, refused, goes-on, popped}
use Rattle.framehop_callers.proofs.evaluation.run.Goals as goal

pub returns-then-left-eq0 : goal.returns-then-left-eq0
returns-then-left-eq0 g c =
    let e : Evaluation = record { code = c.args.code.now; columns = g.R.DwarfUnwindRegs.column c.args.regs.now; limit = g.V.ValueStack.limit } in
    let memory = g.M.WordMemory.memory c.args.memory.now in
    let s : State = record { position = c.loop-at.at; stack = g.V.ValueStack.values c.loop-at.values } in
    out_of_operations e memory c.loop-at.left s _ c.if-left-eq0.true c.loop-at-test.true c.loop-at.invariant

pub returns-in_err-at : goal.returns-in_err-at
returns-in_err-at g c =
    let p = err_from_is_err_and c.from_residual.result c.from_residual.ensures.1 in
    let e : Evaluation = record { code = c.args.code.now; columns = g.R.DwarfUnwindRegs.column c.args.regs.now; limit = g.V.ValueStack.limit } in
    let memory = g.M.WordMemory.memory c.args.memory.now in
    let s : State = record { position = c.loop-at.at; stack = g.V.ValueStack.values c.loop-at.values } in
    rw (p.1, p.2) (refused e memory g.V.ValueStack.limit c.in_err-at.field-0.0 c.loop-at.left s (g.V.ValueStack.values c.step_over.new.values) _ c.if-left-eq0.false c.loop-at-test.true c.loop-at.invariant c.in_err-at.ensures)

pub loop-at-preserved : goal.loop-at-preserved
loop-at-preserved g c =
    let e : Evaluation = record { code = c.args.code.now; columns = g.R.DwarfUnwindRegs.column c.args.regs.now; limit = g.V.ValueStack.limit } in
    let memory = g.M.WordMemory.memory c.args.memory.now in
    let s : State = record { position = c.loop-at.at; stack = g.V.ValueStack.values c.loop-at.values } in
    let next : State = record { position = c.in_ok-at.at; stack = g.V.ValueStack.values c.step_over.new.values } in
    goes-on e memory c.loop-at.left s next _ c.if-left-eq0.false c.loop-at-test.true c.loop-at.invariant c.in_ok-at.ensures

pub returns : goal.returns
returns g c =
    let e : Evaluation = record { code = c.args.code.now; columns = g.R.DwarfUnwindRegs.column c.args.regs.now; limit = g.V.ValueStack.limit } in
    let memory = g.M.WordMemory.memory c.args.memory.now in
    let s : State = record { position = c.loop-at.at; stack = g.V.ValueStack.values c.loop-at.values } in
    popped e memory g.V.ValueStack.limit c.loop-at.left s (g.V.ValueStack.values c.pop.new.values) _ c.pop.result c.loop-at-test.false c.loop-at.invariant c.pop.ensures.top c.pop.ensures.none
