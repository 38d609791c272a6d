use Rattle.std.proofs.Common.{[], sym, ap, ◌∙◌}
use Rattle.framehop_bytes.specs.ExplicitSections.{table_of}
use Rattle.framehop.specs.Laws.SectionContents.{data-of_bytes}
use Rattle.framehop.specs.Modules.{ModuleView, UnwindData}
use Rattle.framehop_processes.specs.MappedBytes.{contents_of}
use Rattle.framehop_dump_stacks.proofs.modules.module_with.Goals as goal

with_data : UnwindData → ModuleView
with_data found = record { name = []; start = 0; end = 0; base_avma = 0; unwind_data = found }

pub returns-in-Ok : goal.returns-in-Ok
unfolding with_data
returns-in-Ok c =
    rw c.new.ensures.bytes at c.in-Ok.ensures.made
    ∙ ap with_data (sym (data-of_bytes contents_of (table_of c.args.info)))
