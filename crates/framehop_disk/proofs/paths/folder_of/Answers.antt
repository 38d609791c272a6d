use Rattle.std.proofs.Common.{sym, arith}
use Rattle.framehop_disk.proofs.PathLemmas.{no_folder, folder_before}
use Rattle.framehop_disk.proofs.paths.folder_of.Goals as goal

pub returns-in-Some : goal.returns-in-Some
returns-in-Some c =
    folder_before 47 c.args.path.now (omega arith) (c.in-Some.folder, c.in-Some.field-0-1) c.in-Some.ensures.cases

pub returns-in-None : goal.returns-in-None
returns-in-None c = sym (no_folder 47 c.args.path.now (omega arith) c.in-None.ensures.cases)
