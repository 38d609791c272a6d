use Rattle.framehop_dwarf.specs.Laws.ValueMeaning.{value_in-means, no_value_in}
use Rattle.framehop_dwarf.proofs.evaluation.evaluate.Goals as goal

pub returns-in-Ok-clause-value : goal.returns-in-Ok-clause-value
returns-in-Ok-clause-value g c =
    value_in-means c.args.section.now (g.R.DwarfUnwindRegs.column c.args.regs.now) _ c.args.expression c.args.first c.in-Ok.value c.in-Ok.ensures

pub returns-in-NoValue-clause-none : goal.returns-in-NoValue-clause-none
returns-in-NoValue-clause-none g c =
    no_value_in c.args.section.now (g.R.DwarfUnwindRegs.column c.args.regs.now) _ c.args.expression c.args.first (rw c.in-NoValue.is at c.in-Err.ensures)
