use Rattle.std.proofs.Common.{refl, sym}
use Rattle.framehop_walk.specs.Commands.{read_add}
use Rattle.framehop_walk.proofs.commands.read_add.Goals as goal

pub returns : goal.returns
unfolding read_add
returns g c =
    let given = c.in_ok-module.ensures in
    (given.0, rw (sym c.in_ok-unwinder.ensures) (rw given.1 refl), given.2)
