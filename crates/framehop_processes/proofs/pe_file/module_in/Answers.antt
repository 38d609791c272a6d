use Rattle.std.proofs.Common.{[], sym, ap, ◌∙◌}
use Rattle.framehop_object.specs.Pe.UnwindSections.{table_of}
use Rattle.framehop.specs.Laws.SectionContents.{data-of_bytes}
use Rattle.framehop.specs.ModuleData.{unwind_data_in}
use Rattle.framehop.specs.Modules.{ModuleView, UnwindData}
use Rattle.framehop_processes.specs.MappedBytes.{contents_of}
use Rattle.framehop_processes.proofs.pe_file.module_in.Goals as goal

with_data : UnwindData → ModuleView
with_data found = record { name = []; start = 0; end = 0; base_avma = 0; unwind_data = found }

pub returns-in-Ok-clause-loaded : goal.returns-in-Ok-clause-loaded
unfolding with_data
returns-in-Ok-clause-loaded c =
    rw c.new.ensures.bytes at c.in-Ok.ensures.made
    ∙ ap with_data (sym (data-of_bytes contents_of (table_of c.kept_pe_sections-info.result)))
    ∙ ap (λ sections. with_data (unwind_data_in (λ bytes. bytes) (table_of sections))) (c.kept_pe_sections-info.ensures ∙ c.in_ok-info.ensures.exact)
