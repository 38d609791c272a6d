use Rattle.std.proofs.Common.{◌∙◌, rules}
use Rattle.framehop_core.proofs.Callback.{AnswersAs-unchanged, Answering-over}
use Rattle.framehop_lent.specs.Window.{words_from}
use Rattle.framehop_lent.proofs.walk.walk_into.Goals as goal

pub returns-clause-answers : goal.returns-clause-answers
returns-clause-answers g c = λ sound.
    let made = c.iter_frames-unwinding.ensures in
    let memory = words_from c.args.stack.now.base c.args.stack.now.words.now in
    let answers = AnswersAs-unchanged _ memory _ (λ a r f' call. search rules) in
    let walked = (Answering-over _ (c.next_into-walked.ensures.answers (rw (made.unwinder, made.cache) sound)) memory answers).1 in
    let walk = rw (made.unwinder, made.cache, made.progress, made.regs) at walked in (
      walk.0,
      (λ out. rw c.regs.ensures (walk.1 out)),
      λ fine.
          let written = walk.2 fine in
          (rw c.regs.ensures written.0, (let last = c.drop-unwinding.ensures.cache ∙ written.1 in search (rules, last))),
    )
