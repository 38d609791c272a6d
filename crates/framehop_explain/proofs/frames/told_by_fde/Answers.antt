use Rattle.framehop_core.proofs.Callback.{Answering-so}
use Rattle.framehop_explain.proofs.ToldLemmas.{dwarf-told-is}
use Rattle.framehop_explain.proofs.frames.told_by_fde.Goals as goal

pub returns-clause-answers : goal.returns-clause-answers
returns-clause-answers g c =
    Answering-so g.F.FnMut c.unwind_frame_with_fde.ensures.answers
    (λ memory ran. dwarf-told-is _ _ c.unwind_frame_with_fde.result _ c.told_by_dwarf.result c.told_by_dwarf.ensures.told c.told_by_dwarf.ensures.whole c.unwind_frame_with_fde.ensures.found ran.0)
