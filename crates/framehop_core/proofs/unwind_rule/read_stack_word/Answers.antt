use Rattle.std.proofs.Common.{ap, sym, ◌∙◌}
use Rattle.framehop_core.proofs.Callback.{Answering-call, Answering-so}
use Rattle.framehop_core.specs.Outcome.{read_of}
use Rattle.framehop_core.proofs.unwind_rule.read_stack_word.Goals as goal

pub returns-in-Ok-clause-answers : goal.returns-in-Ok-clause-answers
returns-in-Ok-clause-answers g c =
    Answering-so g.F.FnMut (Answering-call g.F.FnMut c.ranges.address.fits c.read_stack.ensures)
    (λ memory read. ap (read_of c.args.address) (sym c.in-Ok.is ∙ read))

pub returns-in-Err-clause-answers : goal.returns-in-Err-clause-answers
returns-in-Err-clause-answers g c =
    Answering-so g.F.FnMut (Answering-call g.F.FnMut c.ranges.address.fits c.read_stack.ensures)
    (λ memory read. ap (read_of c.args.address) (sym c.in-Err.is ∙ read))
