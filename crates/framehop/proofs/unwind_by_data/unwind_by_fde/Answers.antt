use Rattle.std.proofs.Common.{◌≢◌, ◌+◌, Ok, Err, ap, sym, subst}
use Rattle.framehop_core.proofs.Callback.{Answering-so}
use Rattle.framehop_dwarf.specs.Told.{out_of_memory}
use Rattle.framehop.specs.CallFrames.{RowReader, fde_answer}
use Rattle.framehop.specs.Told.{TellsAnswer, TellsValues}
use Rattle.framehop.specs.declared.modules.UnwinderError.TheVariants.{Dwarf}
use Rattle.framehop.proofs.ToldLemmas.{fde-err-told, fde-err-values, fde-ok-told, fde-ok-values, err-same, rows-are}
use Rattle.framehop.proofs.unwind_by_data.unwind_by_fde.Goals as goal

pub returns-in-Ok-clause-unwound : goal.returns-in-Ok-clause-unwound
returns-in-Ok-clause-unwound g c =
    let limits = g.met.P.AllocationPolicy.is_policy in
    let found = c.in-Ok.ensures.found (λ e. cc) in (
      λ some. subst (λ (reader : RowReader g.row.A-UnwindRule.Denot g.row.A-UnwindRegs.Denot). TellsAnswer (fde_answer reader g.P.AllocationPolicy.policy c.args.unwinder.now.section (c.args.unwinder.now.base_svma + c.args.lookup.relative_address) c.args.lookup.is_first_frame c.args.fde_offset) (Ok c.in-Ok.found))
          (sym (rows-are _ _ g.met.A.Unwinding.readers_are))
          (fde-ok-told _ g.P.AllocationPolicy.policy c.args.unwinder.now.section (c.args.unwinder.now.base_svma + c.args.lookup.relative_address) c.args.lookup.is_first_frame c.args.fde_offset _ _ limits.1 limits.2 c.in-Ok.found found),
      Answering-so g.F.FnMut c.in-Ok.ensures.answers (λ memory ran some.
          subst (λ (reader : RowReader g.row.A-UnwindRule.Denot g.row.A-UnwindRegs.Denot). TellsValues (fde_answer reader g.P.AllocationPolicy.policy c.args.unwinder.now.section (c.args.unwinder.now.base_svma + c.args.lookup.relative_address) c.args.lookup.is_first_frame c.args.fde_offset) c.args.regs.now memory (Ok c.in-Ok.found) c.unwind_frame_with_fde.new.regs)
          (sym (rows-are _ _ g.met.A.Unwinding.readers_are))
          (fde-ok-values _ g.P.AllocationPolicy.policy c.args.unwinder.now.section (c.args.unwinder.now.base_svma + c.args.lookup.relative_address) c.args.lookup.is_first_frame c.args.fde_offset _ _ limits.1 limits.2 memory c.args.regs.now c.unwind_frame_with_fde.new.regs c.in-Ok.found found ran.0)),
    )

pub returns-in-Err-clause-unwound : goal.returns-in-Err-clause-unwound
returns-in-Err-clause-unwound g c =
    let limits = g.met.P.AllocationPolicy.is_policy in (
      λ some.
          let kept : c.in-Err.error ≢ out_of_memory = λ e. some (ap (λ x. Err (Dwarf x)) e) in
          subst (λ (reader : RowReader g.row.A-UnwindRule.Denot g.row.A-UnwindRegs.Denot). TellsAnswer (fde_answer reader g.P.AllocationPolicy.policy c.args.unwinder.now.section (c.args.unwinder.now.base_svma + c.args.lookup.relative_address) c.args.lookup.is_first_frame c.args.fde_offset) (Err (Dwarf c.in-Err.error)))
          (sym (rows-are _ _ g.met.A.Unwinding.readers_are))
          (fde-err-told _ g.P.AllocationPolicy.policy c.args.unwinder.now.section (c.args.unwinder.now.base_svma + c.args.lookup.relative_address) c.args.lookup.is_first_frame c.args.fde_offset _ _ limits.1 limits.2 c.in-Err.error kept (c.in-Err.ensures.found (λ e. kept (err-same _ _ e)))),
      Answering-so g.F.FnMut c.in-Err.ensures.answers (λ memory ran some.
          let kept : c.in-Err.error ≢ out_of_memory = λ e. some (ap (λ x. Err (Dwarf x)) e) in
          subst (λ (reader : RowReader g.row.A-UnwindRule.Denot g.row.A-UnwindRegs.Denot). TellsValues (fde_answer reader g.P.AllocationPolicy.policy c.args.unwinder.now.section (c.args.unwinder.now.base_svma + c.args.lookup.relative_address) c.args.lookup.is_first_frame c.args.fde_offset) c.args.regs.now memory (Err (Dwarf c.in-Err.error)) c.unwind_frame_with_fde.new.regs)
          (sym (rows-are _ _ g.met.A.Unwinding.readers_are))
          (fde-err-values _ g.P.AllocationPolicy.policy c.args.unwinder.now.section (c.args.unwinder.now.base_svma + c.args.lookup.relative_address) c.args.lookup.is_first_frame c.args.fde_offset _ _ limits.1 limits.2 memory c.args.regs.now c.unwind_frame_with_fde.new.regs c.in-Err.error kept (c.in-Err.ensures.found (λ e. kept (err-same _ _ e))) ran.0)),
    )
