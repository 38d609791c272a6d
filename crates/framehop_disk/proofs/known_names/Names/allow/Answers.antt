use Rattle.std.proofs.Common.{◌∙◌, ap}
use Rattle.std.specs.BTreeMap.{is_at}
use Rattle.std.specs.Map.{lookup}
use Rattle.std.specs.Cmp.Lexicographic.{slice_cmp}
use Rattle.std.specs.Ordering.{nat_cmp}
use Rattle.framehop_disk.specs.KnownNames.{bytes_of}
use Rattle.framehop_disk.proofs.NamesLemmas.{keeps-other}
use Rattle.framehop_disk.proofs.known_names.Names.allow.Goals as goal

pub returns-in_err-is_allowed-clause-others : goal.returns-in_err-is_allowed-clause-others
returns-in_err-is_allowed-clause-others c = λ other ne.
    keeps-other c.args.file.now other ne c.args.self.now.by_file.entries c.remove.new.self.entries c.remove.ensures.updates.3

pub returns-in_err-key-clause-others : goal.returns-in_err-key-clause-others
returns-in_err-key-clause-others c = λ other ne.
    keeps-other c.args.file.now other ne c.args.self.now.by_file.entries c.remove.new.self.entries c.remove.ensures.updates.3

pub returns-in_err-insert-clause-others : goal.returns-in_err-insert-clause-others
returns-in_err-insert-clause-others c = λ other ne.
    ap (λ entries. bytes_of (lookup (is_at (λ key. slice_cmp nat_cmp other key.items)) entries)) c.in_err-insert.ensures.err
    ∙ keeps-other c.args.file.now other ne c.args.self.now.by_file.entries c.remove.new.self.entries c.remove.ensures.updates.3

pub returns-clause-others : goal.returns-clause-others
returns-clause-others c = λ other ne.
    keeps-other c.in_ok-key.key.items other (λ is. ne (is ∙ c.in_ok-key.ensures.items)) c.remove.new.self.entries c.insert.new.self.entries c.in_ok-insert.ensures.updates.3
    ∙ keeps-other c.args.file.now other ne c.args.self.now.by_file.entries c.remove.new.self.entries c.remove.ensures.updates.3
