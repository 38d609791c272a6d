use Rattle.std.proofs.Common.{rules, ◌≡◌}
use Rattle.framehop_processes.specs.Files.{path_of}
use Rattle.framehop_processes.proofs.files.read_with_names.Goals as goal

pub returns-clause-kept : goal.returns-clause-kept
returns-clause-kept g c =
    let kept = c.in_ok-object.ensures.kept in
    let named = c.in_ok-add_debug_names.ensures.kept kept.0 kept.2 in
    let path : c.path_of.result.now ≡ path_of c.args.name.now = c.path_of.ensures in
    (kept.0, kept.1, search (rules, named, path))
