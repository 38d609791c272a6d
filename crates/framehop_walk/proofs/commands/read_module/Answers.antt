use Rattle.std.proofs.Common.{ℕ, sym, ap, ◌∙◌}
use Rattle.std.specs.Global.{Global}
use Rattle.std.specs.declared.vec.Vec.{Vec}
use Rattle.framehop.specs.Modules.{ModuleView, UnwindData}
use Rattle.framehop.specs.Laws.SectionContents.{data-of_bytes}
use Rattle.serde_json.specs.View.{view}
use Rattle.framehop_walk.specs.Commands.{LoadedModule}
use Rattle.framehop_walk.specs.Sections.{bytes_of_table, table_view}
use Rattle.framehop_walk.proofs.Tables.{module-read}
use Rattle.framehop_walk.proofs.commands.read_module.Goals as goal

with_data : LoadedModule → UnwindData → ModuleView
with_data told found = record { name = told.name; start = told.start; end = told.end; base_avma = told.base; unwind_data = found }

pub returns-in-Ok : goal.returns-in-Ok
unfolding with_data
returns-in-Ok c =
    let table = table_view c.in_ok-sections.sections in
    let told : LoadedModule = record { name = c.in_ok-label.label.now; start = c.in_ok-start.start; end = c.in_ok-end.end; base = c.in_ok-base.base; table = bytes_of_table table } in (
      told,
      module-read (view c.args.command.now) c.in_ok-label.label.now c.in_ok-start.start c.in_ok-end.end c.in_ok-base.base (bytes_of_table table)
          (sym c.in_ok-label.ensures) (sym c.in_ok-start.ensures) (sym c.in_ok-end.ensures) (sym c.in_ok-base.ensures)
          (sym (c.in_ok-sections.ensures (λ out. let no : ⊥ = cc in no))),
      rw c.in_ok-name.ensures.ok at c.in-Ok.ensures.made
          ∙ ap (λ (d : UnwindData). with_data told d) (sym (data-of_bytes (λ (bytes : Vec ℕ Global). bytes.items) table)),
    )
