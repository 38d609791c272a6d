-- The module with the sections that memory has, at the addresses of the mapping.
use Rattle.std.proofs.Common.{◌≡◌, ◌∙◌, IfOk, ap, sym, subst}
use Rattle.std.specs.Prelude.{slice_get}
use Rattle.framehop.specs.Modules.{ModuleView}
use Rattle.framehop_processes.specs.Files.{placed_at}
use Rattle.framehop_dumps.specs.Dump.{dump_view}
use Rattle.framehop_dump_stacks.specs.Modules.{module_with, sections_by}
use Rattle.framehop_dump_stacks.proofs.FrameHeaderLemmas.{none-seen, nothing-of}
use Rattle.framehop_dump_stacks.proofs.modules.DumpModules.module_in_memory.Goals as goal

pub returns-then-is_none : goal.returns-then-is_none
returns-then-is_none c =
    let maker = c.args.self.now in
    let mapping = c.args.mapping.now in
    let file = slice_get maker.files.now.list.items mapping.file in
    let frames = ap (λ info. info.eh_frame) (sym c.sections-info.ensures) ∙ none-seen c.sections-info.result.eh_frame c.if-is_none.ensures in
    let bare : maker.bare ≡ module_with (sections_by (dump_view maker.dump.now) file mapping.base_avma) =
    maker.without ∙ ap module_with (sym (nothing-of (dump_view maker.dump.now) file mapping.base_avma frames)) in
    subst (λ (view : ModuleView). IfOk c.placed_at.result (λ made. made ≡ placed_at view mapping)) bare c.placed_at.ensures

pub returns : goal.returns
returns c =
    let placed = rw c.in_ok-module_with.ensures at c.placed_at-3.ensures in
    subst (λ sections. IfOk c.placed_at-3.result (λ made. made ≡ placed_at (module_with sections) c.args.mapping.now)) c.sections-info.ensures placed
