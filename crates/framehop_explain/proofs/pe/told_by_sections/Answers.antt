use Rattle.std.proofs.Common.{◌∙◌}
use Rattle.framehop_core.proofs.Callback.{Answering-so}
use Rattle.framehop_explain.proofs.ToldLemmas.{pe-is}
use Rattle.framehop_explain.proofs.pe.told_by_sections.Goals as goal

pub returns-clause-answers : goal.returns-clause-answers
returns-clause-answers g c =
    Answering-so g.F.FnMut c.unwind_frame.ensures.answers
    (λ memory ran. c.told_by_pe.ensures ∙ pe-is _ _ c.unwind_frame.result _ c.unwind_frame.ensures.found ran)
