use Rattle.std.proofs.Common.{◌≡◌, drop}
use Rattle.framehop_explain_cli.proofs.SessionLemmas.{left_among}
use Rattle.framehop_explain_cli.proofs.notes.with_remarks.Given as goal

abbrev pub invariant-loop-section : goal.invariant-loop-section
invariant-loop-section l = left_among l.kind l.more (drop l.section-index l.sections.items) ≡ left_among l.kind l.fn.note l.sections.items
