use Rattle.std.proofs.Common.{arith}
use Rattle.framehop_macho.proofs.Lists.{list_count-few}
use Rattle.framehop_macho.proofs.x86_64.saved_registers.+list_count.Goals as goal

pub returns-clause-fits : goal.returns-clause-fits
returns-clause-fits t c =
    list_count-few c.args.count c.args.members c.list_count.result (omega arith) (omega arith) c.requires.few c.list_count.ensures.exact
