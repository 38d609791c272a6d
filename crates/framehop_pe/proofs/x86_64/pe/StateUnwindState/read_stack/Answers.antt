use Rattle.std.proofs.Common.{◌∙◌, ap}
use Rattle.std.specs.Result.{result_ok}
use Rattle.framehop_core.proofs.Callback.{Answering-call, Answering-so}
use Rattle.framehop_pe.proofs.Iterators.{result_ok-reply}
use Rattle.framehop_pe.proofs.x86_64.pe.StateUnwindState.read_stack.Goals as goal

pub returns-clause-answers : goal.returns-clause-answers
returns-clause-answers g c =
    Answering-so g.F.FnMut (Answering-call g.F.FnMut c.ranges.address.fits c.read_stack.ensures)
    (λ memory word. c.ok.ensures.value ∙ ap result_ok word ∙ result_ok-reply (memory c.args.address))
