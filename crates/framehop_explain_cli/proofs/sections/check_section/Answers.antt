use Rattle.std.proofs.Common.{sym, refl}
use Rattle.framehop_explain_cli.specs.Faults.{test_section}
use Rattle.framehop_explain_cli.proofs.sections.check_section.Goals as goal

pub returns-in-Ok : goal.returns-in-Ok
unfolding test_section
returns-in-Ok c = λ before has. rw (sym c.in-Ok.ensures) (c.check_named_section.ensures before has)

pub returns-in-Err : goal.returns-in-Err
unfolding test_section
returns-in-Err c = λ before has. rw (sym c.in-Err.ensures) (refl, tt)
