use Rattle.std.proofs.Common.{rules}
use Rattle.framehop_processes.proofs.object_file.ObjectFile.new.Goals as goal

pub returns-clause-kept : goal.returns-clause-kept
returns-clause-kept c =
    let kept = c.in_ok-object.ensures.kept in
    (kept.0, search (rules, kept.1), kept.2 _ (search rules) (search rules))
