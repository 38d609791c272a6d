use Rattle.std.proofs.Common.{◌∙◌, ap}
use Rattle.framehop_callers.specs.Run.{agreed}
use Rattle.framehop_callers.specs.Step.{Source}
use Rattle.framehop_callers.proofs.CallerLemmas.{caller-sound, ends-exact, forks-exact}
use Rattle.framehop_callers.proofs.run.caller_by_runs.Goals as goal

pub returns-in-Ends-clause-exact : goal.returns-in-Ends-clause-exact
returns-in-Ends-clause-exact g c =
    let source : Source = record { convention = g.M.RunMemory.convention c.args.memory.now; memory = g.M.WordMemory.memory c.args.memory.now; code = g.M.RunMemory.code c.args.memory.now; is_covered = g.M.RunMemory.covers c.args.memory.now } in
    c.ended.ensures ∙ ap (λ a. agreed a c.in-Ends.caller c.in-Ends.caller) c.convention.ensures ∙ ends-exact source c.args.address c.args.registers.now c.new-state.result c.run_together.new.state c.in-Ends.caller c.new-state.ensures c.in-Ends.ensures

pub returns-in-Ends-clause-sound : goal.returns-in-Ends-clause-sound
returns-in-Ends-clause-sound g c =
    let source : Source = record { convention = g.M.RunMemory.convention c.args.memory.now; memory = g.M.WordMemory.memory c.args.memory.now; code = g.M.RunMemory.code c.args.memory.now; is_covered = g.M.RunMemory.covers c.args.memory.now } in
    caller-sound source c.args.address c.args.registers.now c.ended.result
    (c.ended.ensures ∙ ap (λ a. agreed a c.in-Ends.caller c.in-Ends.caller) c.convention.ensures ∙ ends-exact source c.args.address c.args.registers.now c.new-state.result c.run_together.new.state c.in-Ends.caller c.new-state.ensures c.in-Ends.ensures)

pub returns-in-Forks-clause-exact : goal.returns-in-Forks-clause-exact
returns-in-Forks-clause-exact g c =
    let source : Source = record { convention = g.M.RunMemory.convention c.args.memory.now; memory = g.M.WordMemory.memory c.args.memory.now; code = g.M.RunMemory.code c.args.memory.now; is_covered = g.M.RunMemory.covers c.args.memory.now } in
    c.run_both.ensures ∙ forks-exact source c.args.address c.args.registers.now c.new-state.result c.run_together.new.state c.in-Forks.left c.new-state.ensures c.in-Forks.ensures

pub returns-in-Forks-clause-sound : goal.returns-in-Forks-clause-sound
returns-in-Forks-clause-sound g c =
    let source : Source = record { convention = g.M.RunMemory.convention c.args.memory.now; memory = g.M.WordMemory.memory c.args.memory.now; code = g.M.RunMemory.code c.args.memory.now; is_covered = g.M.RunMemory.covers c.args.memory.now } in
    caller-sound source c.args.address c.args.registers.now c.run_both.result
    (c.run_both.ensures ∙ forks-exact source c.args.address c.args.registers.now c.new-state.result c.run_together.new.state c.in-Forks.left c.new-state.ensures c.in-Forks.ensures)
