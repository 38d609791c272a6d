use Rattle.std.proofs.Common.{rules, subst, sym}
use Rattle.framehop_cfi.specs.Numbers.{u32_at}
use Rattle.framehop_code.specs.Aarch64.Instruction.{instruction_at}
use Rattle.framehop_code.specs.Aarch64.Machine.{AreAsMachine}
use Rattle.framehop_code.proofs.MachineAarch64.{as-machine}
use Rattle.framehop_code.proofs.aarch64.instruction.read_instruction.Goals as goal

pub returns-in-Ok-clause-exact : goal.returns-in-Ok-clause-exact
unfolding instruction_at u32_at
returns-in-Ok-clause-exact c = search rules

pub returns-in-Err-clause-exact : goal.returns-in-Err-clause-exact
unfolding instruction_at u32_at
returns-in-Err-clause-exact c = search rules

pub returns-in-Ok-clause-machine : goal.returns-in-Ok-clause-machine
returns-in-Ok-clause-machine c =
    subst (AreAsMachine c.args.code.now c.args.at) (sym (returns-in-Ok-clause-exact c)) (as-machine c.args.code.now c.args.at)

pub returns-in-Err-clause-machine : goal.returns-in-Err-clause-machine
returns-in-Err-clause-machine c =
    subst (AreAsMachine c.args.code.now c.args.at) (sym (returns-in-Err-clause-exact c)) (as-machine c.args.code.now c.args.at)
