use Rattle.std.proofs.Common.{rules, ◌∙◌}
use Rattle.framehop_core.proofs.Callback.{AnswersAs-unchanged, Answering-over}
use Rattle.framehop_backtrace.proofs.InfoLemmas.{is_by_pe-is}
use Rattle.framehop_backtrace.proofs.info.is_by_pe.Goals as goal

pub returns : goal.returns
returns g c =
    let memory = g.M.WordMemory.memory c.args.memory.now in
    let answers = AnswersAs-unchanged _ memory _ (λ a r f' call. search rules) in
    let computed = (Answering-over _ c.unwind_frame-found.ensures.answers memory answers).1 in
    c.is_ok.ensures.value ∙ is_by_pe-is _ _ c.unwind_frame-found.result _ c.unwind_frame-found.ensures.found computed
