use Rattle.std.proofs.Common.{rules}
use Rattle.framehop.specs.World.{memory_of}
use Rattle.framehop_core.proofs.Callback.{AnswersAs-unchanged, Answering-over}
use Rattle.framehop.proofs.session.walks.walk_stack.Goals as goal

pub returns-clause-answers : goal.returns-clause-answers
returns-clause-answers g c = λ sound.
    let answers = AnswersAs-unchanged _ (memory_of c.args.memory.now) _ (λ a r f' call. search rules) in
    let walked = (Answering-over _ (c.in_ok-walk.ensures.answers sound) (memory_of c.args.memory.now) answers).1 in
    (walked.0, walked.1)
