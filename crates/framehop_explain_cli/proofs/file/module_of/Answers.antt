use Rattle.std.proofs.Common.{◌∙◌, sym, ap}
use Rattle.std.specs.Global.{Global}
use Rattle.std.specs.declared.vec.Vec.{Vec}
use Rattle.std.proofs.Common.{ℕ}
use Rattle.framehop.specs.Laws.SectionContents.{data-of_bytes}
use Rattle.framehop.specs.Modules.{ModuleView}
use Rattle.framehop_explain_cli.proofs.file.module_of.Goals as goal

pub returns-clause-made : goal.returns-clause-made
returns-clause-made g c =
    ap (λ (m : ModuleView). m.unwind_data) c.in_ok-module.ensures.made
    ∙ sym (data-of_bytes (λ (vec : Vec ℕ Global). vec.items) (g.I.ModuleSectionInfo.table c.args.sections))
