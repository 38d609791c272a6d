use Rattle.std.proofs.Common.{Ok, Err, subst}
use Rattle.framehop_core.proofs.Callback.{Answering-so}
use Rattle.framehop_pe.specs.Sections.{Sections}
use Rattle.framehop.specs.Answer.{fresh_of}
use Rattle.framehop.specs.Told.{UnwindsBy}
use Rattle.framehop.specs.declared.modules.UnwinderError.TheVariants.{Pe}
use Rattle.framehop.proofs.ToldLemmas.{pe-told, pe-values, pe-written}
use Rattle.framehop.proofs.unwind_data.PeInfo.unwind_by_pe.Goals as goal

pub returns-in-Ok-clause-written : goal.returns-in-Ok-clause-written
returns-in-Ok-clause-written g c =
    pe-written _ _ (Ok c.in-Ok.found) c.args.regs.now c.unwind_frame.new.regs c.in-Ok.ensures.found c.in-Ok.ensures.written (λ none. g.met.A.Unwinding.pe_values_advance _ _ _ none _ _)

pub returns-in-Ok-clause-unwound : goal.returns-in-Ok-clause-unwound
returns-in-Ok-clause-unwound g c =
    subst (λ (sections : Sections). UnwindsBy
    (fresh_of (g.A.PeUnwinding.found sections c.args.lookup.relative_address c.args.lookup.is_first_frame)
    (λ old memory. g.A.PeUnwinding.computed sections c.args.lookup.relative_address c.args.lookup.is_first_frame memory old))
    c.args.regs.now (Ok c.in-Ok.found) c.unwind_frame.new.regs g.F.FnMut c.args.read_stack.now c.unwind_frame.new.read_stack)
    c.sections.ensures (
      λ some. pe-told _ _ (Ok c.in-Ok.found) c.in-Ok.ensures.refusal c.in-Ok.ensures.found,
      Answering-so g.F.FnMut c.in-Ok.ensures.answers
          (λ memory ran some. pe-values _ _ (Ok c.in-Ok.found) c.args.regs.now c.unwind_frame.new.regs memory c.in-Ok.ensures.refusal c.in-Ok.ensures.found ran),
    )

pub returns-in-Err-clause-unwound : goal.returns-in-Err-clause-unwound
returns-in-Err-clause-unwound g c =
    subst (λ (sections : Sections). UnwindsBy
    (fresh_of (g.A.PeUnwinding.found sections c.args.lookup.relative_address c.args.lookup.is_first_frame)
    (λ old memory. g.A.PeUnwinding.computed sections c.args.lookup.relative_address c.args.lookup.is_first_frame memory old))
    c.args.regs.now (Err (Pe c.in-Err.error)) c.unwind_frame.new.regs g.F.FnMut c.args.read_stack.now c.unwind_frame.new.read_stack)
    c.sections.ensures (
      λ some. pe-told _ _ (Err c.in-Err.error) c.in-Err.ensures.refusal c.in-Err.ensures.found,
      Answering-so g.F.FnMut c.in-Err.ensures.answers
          (λ memory ran some. pe-values _ _ (Err c.in-Err.error) c.args.regs.now c.unwind_frame.new.regs memory c.in-Err.ensures.refusal c.in-Err.ensures.found ran),
    )
