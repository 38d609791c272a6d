use Rattle.std.proofs.Common.{◌≡◌, ℕ, None, sym, ◌∙◌, arith, subst}
use Rattle.framehop_callers.specs.Step.{Source, goes, given_up}
use Rattle.framehop_callers.specs.Step as step
use Rattle.framehop_callers.specs.Run.{run_from}
use Rattle.framehop_callers.proofs.Runs.{after_step, no_step, both_step}
use Rattle.framehop_callers.proofs.run.run_together.Goals as goal

pub loop-left-preserved : goal.loop-left-preserved
loop-left-preserved g c forward =
    let source : Source = record { convention = g.M.RunMemory.convention c.args.memory.now; memory = g.M.WordMemory.memory c.args.memory.now; code = g.M.RunMemory.code c.args.memory.now; is_covered = g.M.RunMemory.covers c.args.memory.now } in
    let taken = both_step source forward c.loop-left.state c.at-read.result (goes c.step.new.self) c.at-read.ensures (sym c.if-is_conditional.ensures) c.in-Goes.ensures in
    sym (after_step source forward c.loop-left.left c.loop-left.state (goes c.step.new.self) _ c.loop-left-test.true taken (sym (c.loop-left.invariant forward)))

pub returns-in-Returns : goal.returns-in-Returns
returns-in-Returns g c forward =
    let source : Source = record { convention = g.M.RunMemory.convention c.args.memory.now; memory = g.M.WordMemory.memory c.args.memory.now; code = g.M.RunMemory.code c.args.memory.now; is_covered = g.M.RunMemory.covers c.args.memory.now } in
    let taken = both_step source forward c.loop-left.state c.at-read.result (step.returns c.step.new.self) c.at-read.ensures (sym c.if-is_conditional.ensures) c.in-Returns.ensures in
    rw c.caller_of.ensures (rw c.convention.ensures
    (sym (after_step source forward c.loop-left.left c.loop-left.state (step.returns c.step.new.self) _ c.loop-left-test.true taken (sym (c.loop-left.invariant forward)))))

pub returns-in-GivenUp : goal.returns-in-GivenUp
returns-in-GivenUp g c forward =
    let source : Source = record { convention = g.M.RunMemory.convention c.args.memory.now; memory = g.M.WordMemory.memory c.args.memory.now; code = g.M.RunMemory.code c.args.memory.now; is_covered = g.M.RunMemory.covers c.args.memory.now } in
    let taken = both_step source forward c.loop-left.state c.at-read.result given_up c.at-read.ensures (sym c.if-is_conditional.ensures) c.in-GivenUp.ensures in
    sym (after_step source forward c.loop-left.left c.loop-left.state given_up _ c.loop-left-test.true taken (sym (c.loop-left.invariant forward)))

pub returns : goal.returns
returns g c forward =
    let source : Source = record { convention = g.M.RunMemory.convention c.args.memory.now; memory = g.M.WordMemory.memory c.args.memory.now; code = g.M.RunMemory.code c.args.memory.now; is_covered = g.M.RunMemory.covers c.args.memory.now } in
    let none : c.loop-left.left ≡ 0 = omega arith in
    c.loop-left.invariant forward
    ∙ subst (λ (k : ℕ). run_from source forward k c.loop-left.state ≡ None) (sym none) (no_step source forward c.loop-left.state)
