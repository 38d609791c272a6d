use Rattle.std.proofs.Common.{rules, subst, sym}
use Rattle.framehop_cfi.specs.Numbers.{u32_at}
use Rattle.framehop_code.specs.Aarch64.Action.{actions_at}
use Rattle.framehop_code.specs.Aarch64.MachineActions.{AreActionsAsMachine}
use Rattle.framehop_code.proofs.ActionsAarch64.{as-machine}
use Rattle.framehop_code.proofs.aarch64.action.actions_at.Goals as goal

pub returns-in-Ok-clause-exact : goal.returns-in-Ok-clause-exact
unfolding actions_at u32_at
returns-in-Ok-clause-exact c = search rules

pub returns-in-Err-clause-exact : goal.returns-in-Err-clause-exact
unfolding actions_at u32_at
returns-in-Err-clause-exact c = search rules

pub returns-in-Ok-clause-machine : goal.returns-in-Ok-clause-machine
returns-in-Ok-clause-machine c =
    subst (AreActionsAsMachine c.args.code.now c.args.at) (sym (returns-in-Ok-clause-exact c)) (as-machine c.args.code.now c.args.at)

pub returns-in-Err-clause-machine : goal.returns-in-Err-clause-machine
returns-in-Err-clause-machine c =
    subst (AreActionsAsMachine c.args.code.now c.args.at) (sym (returns-in-Err-clause-exact c)) (as-machine c.args.code.now c.args.at)
