use Rattle.std.proofs.Common.{sym, arith}
use Rattle.framehop_disk.proofs.PathLemmas.{no_name, name_after}
use Rattle.framehop_disk.proofs.paths.windows_name.Goals as goal

pub returns-in-Some : goal.returns-in-Some
returns-in-Some c =
    name_after 92 c.args.path.now (omega arith) (c.in-Some.field-0-0, c.in-Some.name) c.in-Some.ensures.cases

pub returns-in-None : goal.returns-in-None
returns-in-None c = sym (no_name 92 c.args.path.now (omega arith) c.in-None.ensures.cases)
