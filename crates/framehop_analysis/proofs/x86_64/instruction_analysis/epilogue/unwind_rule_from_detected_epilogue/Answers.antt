use Rattle.framehop_analysis.proofs.Answers.{only-iff, only-some, only-on}
use Rattle.framehop_analysis.specs.Laws.X86_64.Does.{does}
use Rattle.framehop_analysis.specs.Laws.X86_64.Reaches.{ends-from}
use Rattle.framehop_analysis.proofs.x86_64.instruction_analysis.epilogue.unwind_rule_from_detected_epilogue.Goals as goal

pub returns-clause-exact : goal.returns-clause-exact
returns-clause-exact c = only-iff _ _ c.detect_epilogue.ensures

pub returns-clause-simulation : goal.returns-clause-simulation
returns-clause-simulation c = only-some _ _ _ c.detect_epilogue.ensures (does _ _)

pub returns-clause-ends : goal.returns-clause-ends
returns-clause-ends c = only-on _ _ _ c.detect_epilogue.ensures (ends-from _ _)
