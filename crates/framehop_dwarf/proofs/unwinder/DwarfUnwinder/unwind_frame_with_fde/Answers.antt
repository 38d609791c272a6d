use Rattle.std.proofs.Common.{◌≡◌, ◌+◌, ◌∙◌, Result, Err, ap, sym}
use Rattle.std.proofs.lemmas.Result.{err_from_is_err_and}
use Rattle.framehop_cfi.specs.declared.dwarf_error.DwarfUnwinderError.{DwarfUnwinderError}
use Rattle.framehop_dwarf.specs.Told.{out_of_memory}
use Rattle.framehop_dwarf.proofs.FoundRow.{reading-is}
use Rattle.framehop_dwarf.proofs.MayTakeMemory.{by_room, by_values}
use Rattle.framehop_dwarf.proofs.unwinder.DwarfUnwinder.unwind_frame_with_fde.Goals as goal

pub returns-in_err-found-clause-reading : goal.returns-in_err-found-clause-reading
returns-in_err-found-clause-reading g c = reading-is g.S.UnwindContextStorage.limits c.args.self.now.section (c.args.self.now.base_svma + c.args.rel_lookup_address) c.args.fde_offset

pub returns-then-not-found-clause-reading : goal.returns-then-not-found-clause-reading
returns-then-not-found-clause-reading g c = reading-is g.S.UnwindContextStorage.limits c.args.self.now.section (c.args.self.now.base_svma + c.args.rel_lookup_address) c.args.fde_offset

pub returns-clause-reading : goal.returns-clause-reading
returns-clause-reading g c = reading-is g.S.UnwindContextStorage.limits c.args.self.now.section (c.args.self.now.base_svma + c.args.rel_lookup_address) c.args.fde_offset

err-same : {A : Type 0} (a b : DwarfUnwinderError) → ◌≡◌ {A = Result A DwarfUnwinderError} (Err a) (Err b) → a ≡ b
err-same a b e = cc

pub returns-in_err-found-clause-memory : goal.returns-in_err-found-clause-memory
returns-in_err-found-clause-memory g c = λ out.
    let p = err_from_is_err_and c.from_residual.result c.from_residual.ensures.1 in
    let same : p.0 ≡ out_of_memory = err-same p.0 out_of_memory (sym p.1 ∙ out) in
    let ran = c.in_err-found.ensures.memory (ap (λ e. Err e) (sym p.2 ∙ same)) in
    by_room g.S.UnwindContextStorage.limits g.E.Stack.ValueStack.limit c.args.self.now.section (c.args.self.now.base_svma + c.args.rel_lookup_address) c.args.fde_offset ran.0 ran.1

pub returns-clause-memory : goal.returns-clause-memory
returns-clause-memory g c = λ out.
    let ran = c.unwind_frame.ensures.memory out in
    by_values g.S.UnwindContextStorage.limits g.E.Stack.ValueStack.limit c.args.self.now.section (c.args.self.now.base_svma + c.args.rel_lookup_address) c.args.fde_offset c.row-row.result.now ran.0 (rw c.row-row.ensures (rw c.if-not-found.false at c.in_ok-found.ensures.found)) ran.1
