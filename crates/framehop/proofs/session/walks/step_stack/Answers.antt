use Rattle.std.proofs.Common.{rules}
use Rattle.framehop.specs.World.{memory_of}
use Rattle.framehop_core.proofs.Callback.{AnswersAs-unchanged, Answering-over}
use Rattle.framehop.proofs.session.walks.step_stack.Goals as goal

pub returns-in-Ok-clause-answers : goal.returns-in-Ok-clause-answers
returns-in-Ok-clause-answers g c = λ sound.
    let answers = AnswersAs-unchanged _ (memory_of c.args.memory.now) _ (λ a r f' call. search rules) in
    (Answering-over _ (c.in-Ok.ensures.answers sound) (memory_of c.args.memory.now) answers).1 (λ e. cc)

pub returns-in_default : goal.returns-in_default
returns-in_default g c = record {
  refused = tt;
  cached = c.in-Err.ensures.cached (λ e. c.in_default.not-OutOfMemory (let same = e in cc));
  answers = λ sound.
      let answers = AnswersAs-unchanged _ (memory_of c.args.memory.now) _ (λ a r f' call. search rules) in
      (Answering-over _ (c.in-Err.ensures.answers sound) (memory_of c.args.memory.now) answers).1 (λ e. c.in_default.not-OutOfMemory (let same = e in cc));
}
