use Rattle.std.proofs.Common.{◌≤◌, ◌∙◌, length, string_bytes, sym, rules}
use Rattle.framehop_explain_cli.proofs.FileLemmas.{entry-next, entry-none}
use Rattle.framehop_explain_cli.proofs.file.push_pe_functions.Goals as goal

pub loop-entry-preserved : goal.loop-entry-preserved
loop-entry-preserved c =
    let entries = c.as_chunks.result.0.now in
    entry-next entries c.loop-entry.entry-index _ (string_bytes c.loop-entry.out) _ (rw c.parse.ensures at c.in_ok-push_pe_entry.ensures) (search rules) (search rules) ∙ c.loop-entry.invariant

pub returns : goal.returns
returns c =
    let entries = c.as_chunks.result.0.now in
    let past : length entries ≤ c.loop-entry.entry-index = search rules in
    sym (entry-none entries c.loop-entry.entry-index (string_bytes c.loop-entry.out) past) ∙ c.loop-entry.invariant
