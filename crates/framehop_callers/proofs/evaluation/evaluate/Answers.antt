use Rattle.std.proofs.Common.{sym, ◌∙◌}
use Rattle.framehop_callers.proofs.Meaning.{value_in-means, no_value_in}
use Rattle.framehop_callers.proofs.evaluation.evaluate.Goals as goal

pub returns-in-Some-clause-value : goal.returns-in-Some-clause-value
returns-in-Some-clause-value g c =
    value_in-means c.args.section.now (g.R.DwarfUnwindRegs.column c.args.regs.now) (g.M.WordMemory.memory c.args.memory.now) c.args.expression c.args.first c.in-Some.value (sym c.value_in.ensures ∙ c.in-Some.is)

pub returns-in-None-clause-none : goal.returns-in-None-clause-none
returns-in-None-clause-none g c =
    no_value_in c.args.section.now (g.R.DwarfUnwindRegs.column c.args.regs.now) (g.M.WordMemory.memory c.args.memory.now) c.args.expression c.args.first (sym c.value_in.ensures ∙ c.in-None.is)
