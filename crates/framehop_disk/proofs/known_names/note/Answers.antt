use Rattle.std.proofs.Common.{rules, false, true}
use Rattle.framehop_disk.proofs.NamesLemmas.{known-allowed, known-noted, other-allowed, full-noted, new-noted}
use Rattle.framehop_disk.proofs.known_names.note.Goals as goal

pub returns-then-has_name-clause-allowed : goal.returns-then-has_name-clause-allowed
returns-then-has_name-clause-allowed c = known-allowed c.args.names.now.items c.args.name.now (search rules)

pub returns-then-has_name-clause-noted : goal.returns-then-has_name-clause-noted
returns-then-has_name-clause-noted c = known-noted c.args.names.now.items c.args.name.now (search rules)

pub returns-then-len-ge-MOST_NAMES-clause-allowed :
    goal.returns-then-len-ge-MOST_NAMES-clause-allowed
returns-then-len-ge-MOST_NAMES-clause-allowed c =
    other-allowed c.args.names.now.items c.args.name.now false (search rules) (search rules)

pub returns-then-len-ge-MOST_NAMES-clause-noted : goal.returns-then-len-ge-MOST_NAMES-clause-noted
returns-then-len-ge-MOST_NAMES-clause-noted c =
    full-noted c.args.names.now.items c.args.name.now (search rules) (search rules)

pub returns-clause-allowed : goal.returns-clause-allowed
returns-clause-allowed c = other-allowed c.args.names.now.items c.args.name.now true (search rules) (search rules)

pub returns-clause-noted : goal.returns-clause-noted
returns-clause-noted c =
    new-noted c.args.names.now.items c.args.name.now c.push.new.self.items c.in_ok-from_slice.field-0 c.in_ok-from_slice.ensures.items
    c.in_ok-push.ensures.items (search rules) (search rules)
