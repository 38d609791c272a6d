use Rattle.std.proofs.Common.{rules}
use Rattle.framehop.specs.StackBytes.{memory_of_bytes}
use Rattle.framehop_core.proofs.Callback.{AnswersAs-unchanged, Answering-over}
use Rattle.framehop_vectors.proofs.proved_caller.frames_of_copy.Goals as goal

-- the callback answers as the copy does, so the walk is that over the copy
pub returns : goal.returns
returns g c =
    let memory = memory_of_bytes c.args.stack.base c.args.stack.bytes.now in
    let answers = AnswersAs-unchanged _ memory _ (λ a r f' call. search rules) in
    record { frames = (Answering-over _ (c.in_ok-walk.ensures.answers c.requires.sound) memory answers).1.0 }
