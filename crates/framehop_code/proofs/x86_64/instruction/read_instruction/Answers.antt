use Rattle.std.proofs.Common.{rules, subst, sym}
use Rattle.framehop_code.specs.X86_64.Instruction.{instruction_at}
use Rattle.framehop_code.specs.X86_64.Machine.{IsAsMachine}
use Rattle.framehop_code.proofs.MachineX86_64.{as-machine}
use Rattle.framehop_code.proofs.x86_64.instruction.read_instruction.Goals as goal

pub returns-in-Ok-clause-exact : goal.returns-in-Ok-clause-exact
unfolding instruction_at
returns-in-Ok-clause-exact c = search rules

pub returns-in-Err-clause-exact : goal.returns-in-Err-clause-exact
unfolding instruction_at
returns-in-Err-clause-exact c = search rules

pub returns-in-Ok-clause-machine : goal.returns-in-Ok-clause-machine
returns-in-Ok-clause-machine c =
    subst (IsAsMachine c.args.code.now c.args.at) (sym (returns-in-Ok-clause-exact c)) (as-machine c.args.code.now c.args.at)

pub returns-in-Err-clause-machine : goal.returns-in-Err-clause-machine
returns-in-Err-clause-machine c =
    subst (IsAsMachine c.args.code.now c.args.at) (sym (returns-in-Err-clause-exact c)) (as-machine c.args.code.now c.args.at)
