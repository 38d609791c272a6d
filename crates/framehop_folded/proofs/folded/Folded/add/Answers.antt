use Rattle.std.proofs.Common.{rules, arith, inr, ◌≡◌, ◌+◌, ap, ◌∙◌}
use Rattle.std.specs.BTreeMap.{insert_entry}
use Rattle.std.specs.Map.{lookup, values_of}
use Rattle.std.specs.List.{sum_by}
use Rattle.std.specs.Option.{unwrap_or}
use Rattle.std.proofs.lemmas.Grind.{common_steps}
use Rattle.framehop_folded.specs.Laws.{by_items, is_line, lookup-insert_other}
use Rattle.framehop_folded.proofs.FoldedLemmas.{sum_by-insert_more}
use Rattle.framehop_folded.proofs.folded.Folded.add.Goals as goal

pub returns-in_default-clause-refused : goal.returns-in_default-clause-refused
returns-in_default-clause-refused c = inr (grind (arith, common_steps))

pub returns-clause-too_large : goal.returns-clause-too_large
returns-clause-too_large c = λ large. absurd (grind (arith, common_steps))

pub returns-clause-total : goal.returns-clause-total
returns-clause-total c =
    let entries = c.args.self.now.counts.entries in
    let more = sum_by-insert_more entries c.args.stack c.args.count c.in_ok-insert.ensures.was_ordered in
    let before : c.unwrap_or-before.result ≡ unwrap_or (lookup (is_line c.args.stack.items) entries) 0 = search rules in
    let sum : c.in-Some.sum ≡ unwrap_or (lookup (is_line c.args.stack.items) entries) 0 + c.args.count = omega (arith, before, c.in-Some.ensures) in
    ap (λ entries. sum_by (λ n. n) (values_of entries)) c.in_ok-insert.ensures.entries
    ∙ ap (λ n. sum_by (λ m. m) (values_of (insert_entry by_items entries c.args.stack n))) sum ∙ more

pub returns-clause-others : goal.returns-clause-others
returns-clause-others c = λ other ne.
    let a = lookup-insert_other other c.args.stack (c.in-Some.sum) ne c.args.self.now.counts.entries in
    search (rules, a)
