use Rattle.framehop_analysis.proofs.Answers.{only-iff, only-some, only-on}
use Rattle.framehop_analysis.specs.Laws.Aarch64.Undoes.{undoes}
use Rattle.framehop_analysis.specs.Laws.Aarch64.Reaches.{reaches-from}
use Rattle.framehop_analysis.proofs.aarch64.instruction_analysis.prologue.unwind_rule_from_detected_prologue.Goals as goal

pub returns-clause-exact : goal.returns-clause-exact
returns-clause-exact c = only-iff _ _ c.detect_prologue.ensures

pub returns-clause-simulation : goal.returns-clause-simulation
returns-clause-simulation c = only-some _ _ _ c.detect_prologue.ensures (undoes _ _)

pub returns-clause-reaches : goal.returns-clause-reaches
returns-clause-reaches c = only-on _ _ _ c.detect_prologue.ensures (reaches-from _ _)
