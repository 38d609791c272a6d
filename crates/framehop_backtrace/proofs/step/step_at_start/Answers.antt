use Rattle.std.proofs.Common.{rules, sym}
use Rattle.framehop_core.proofs.Callback.{AnswersAs-unchanged, Answering-over}
use Rattle.framehop_backtrace.proofs.step.step_at_start.Goals as goal

pub returns : goal.returns
returns g c =
    let memory = g.M.WordMemory.memory c.args.memory.now in
    let answers = AnswersAs-unchanged _ memory _ (λ a r f' call. search rules) in
    rw (sym c.rule_for_function_start.ensures) (Answering-over _ c.exec.ensures.answers memory answers).1
