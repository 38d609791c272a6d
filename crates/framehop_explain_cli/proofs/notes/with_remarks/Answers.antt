use Rattle.std.proofs.Common.{◌≡◌, ◌<◌, ◌≤◌, ◌∙◌, length, get_or, sym}
use Rattle.framehop_explain_cli.proofs.SessionLemmas.{section-noted, sections-noted}
use Rattle.framehop_explain_cli.proofs.notes.with_remarks.Goals as goal

pub loop-section-preserved : goal.loop-section-preserved
loop-section-preserved c =
    let values = c.args.sections.now.items in
    let within : c.loop-section.section-index < length values = rw c.deref-section-items.ensures.value at c.loop-section-test.true in
    let one : c.section-item.result ≡ get_or values c.loop-section.section-index c.section-item.result = rw c.deref-section-items.ensures.value at c.section-item.is in
    section-noted c.args.kind values c.loop-section.section-index c.section-item.result c.loop-section.more c.in_ok-more.more within one c.in_ok-more.ensures ∙ c.loop-section.invariant

pub returns : goal.returns
returns c =
    let values = c.args.sections.now.items in
    let past : length values ≤ c.loop-section.section-index = rw c.deref-section-items.ensures.value at c.loop-section-test.false in
    sym (sections-noted c.args.kind values c.loop-section.section-index c.loop-section.more past) ∙ c.loop-section.invariant
