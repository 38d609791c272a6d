use Rattle.std.proofs.Common.{rules}
use Rattle.framehop_core.specs.Memory.{memory_of_words}
use Rattle.framehop_core.proofs.Callback.{AnswersAs-unchanged, Answering-over}
use Rattle.framehop_rule_vectors.proofs.rules_aarch64.exec_over_words.Goals as goal

pub returns-clause-answer : goal.returns-clause-answer
returns-clause-answer c =
    (Answering-over _ c.exec.ensures.answers (memory_of_words c.args.stack.now) (AnswersAs-unchanged _ _ _ (λ a r f' call. search rules))).1.0

pub returns-clause-registers : goal.returns-clause-registers
returns-clause-registers c =
    (Answering-over _ c.exec.ensures.answers (memory_of_words c.args.stack.now) (AnswersAs-unchanged _ _ _ (λ a r f' call. search rules))).1.1
