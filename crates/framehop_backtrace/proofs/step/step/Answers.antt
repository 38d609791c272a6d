use Rattle.std.proofs.Common.{rules}
use Rattle.framehop_core.proofs.Callback.{AnswersAs-unchanged, Answering-over}
use Rattle.framehop_backtrace.proofs.step.step.Goals as goal

pub returns-clause-done : goal.returns-clause-done
returns-clause-done g c = λ sound fine.
    let memory = g.M.WordMemory.memory c.args.memory.now in
    let answers = AnswersAs-unchanged _ memory _ (λ a r f' call. search rules) in
    (Answering-over _ (c.unwind_frame.ensures.answers sound) memory answers).1 fine
