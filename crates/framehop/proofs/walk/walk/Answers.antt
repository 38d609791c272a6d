use Rattle.std.proofs.Common.{ap, ◌∙◌, rules}
use Rattle.framehop.specs.SessionView.{walk_of}
use Rattle.framehop_core.proofs.Callback.{Answering-so}
use Rattle.framehop.proofs.WalkLemmas.{Answering-to}
use Rattle.framehop.proofs.MeaningLemmas.{walk-meant}
use Rattle.framehop.proofs.walk.walk.Goals as goal

pub returns-clause-answers : goal.returns-clause-answers
returns-clause-answers g c = λ sound.
    let made = c.iter_frames-unwinding.ensures in
    Answering-to g.F.FnMut (Answering-so g.F.FnMut (rw made.read_stack at (c.in_ok-frames.ensures.answers (rw (made.unwinder, made.cache) sound))) (λ memory called.
    let walk = rw (made.unwinder, made.cache, made.progress, made.regs) at called in (
      ap (walk_of c.in_ok-frames.frames.items c.in_ok-frames.end) c.regs-regs.ensures ∙ walk.0,
      (let last = c.drop-unwinding-2.ensures.cache ∙ walk.1 in search (rules, last)),
      walk-meant _ _ (λ location old new address e. (e, g.met.U.Unwinder.step_means c.args.unwinder.now location old new memory address e)) c.args.limit c.args.pc c.args.regs,
    ))) (search rules)

pub returns-in_err-frames-clause-answers : goal.returns-in_err-frames-clause-answers
returns-in_err-frames-clause-answers g c = λ sound.
    let made = c.iter_frames-unwinding.ensures in
    Answering-to g.F.FnMut (Answering-so g.F.FnMut (rw made.read_stack at (c.in_err-frames.ensures.answers (rw (made.unwinder, made.cache) sound))) (λ memory called. search rules)) (search rules)
