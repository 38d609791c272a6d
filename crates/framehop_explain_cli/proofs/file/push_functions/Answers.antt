use Rattle.std.proofs.Common.{◌<◌, ◌∙◌, suc, length, string_bytes, sym, ap, arith}
use Rattle.framehop_cfi.specs.Section.{Section}
use Rattle.framehop_explain_cli.proofs.FunctionLemmas.{extent-refused, ended, past, at-end, begins}
use Rattle.framehop_explain_cli.proofs.file.push_functions.Goals as goal

pub loop-at-init : goal.loop-at-init
loop-at-init c = (suc (length c.args.section.now.bytes), omega arith, begins c.args.section.now (string_bytes c.args.out.now), c.new-cies.ensures)

pub loop-at-preserved : goal.loop-at-preserved
loop-at-preserved c =
    let inv = c.loop-at.invariant in
    let bytes = ap (λ (s : Section). s.bytes) c.section.view_is in
    let inside = rw bytes at c.loop-at-test.true in
    let read = rw bytes at c.in-Ok.ensures.exact in
    let within = c.in-Ok.ensures.within in
    let behind = within.behind in
    let ordered = within.ordered in
    let further : c.loop-at.at < c.in-Ok.extent.end = omega arith in
    let on = past c.args.section.now (string_bytes c.loop-at.out) inv.0 c.loop-at.at c.in-Ok.extent (inv.1, inside) further (sym read) (sym c.ends_section.ensures ∙ c.if-ends_section.false) in
    (on.0, on.1, rw c.in_ok-push_entry.ensures.appended (on.2 ∙ inv.2), c.push_entry.ensures.kept ∙ inv.3)

pub returns-in_default : goal.returns-in_default
returns-in_default c =
    let inv = c.loop-at.invariant in
    let bytes = ap (λ (s : Section). s.bytes) c.section.view_is in
    let inside = rw bytes at c.loop-at-test.true in
    let read = rw bytes at c.in_default.ensures.exact in
    sym (extent-refused c.args.section.now (string_bytes c.loop-at.out) inv.0 c.loop-at.at c.in_default.field-0 (inv.1, inside) (sym read)) ∙ inv.2

pub returns-then-ends_section : goal.returns-then-ends_section
returns-then-ends_section c =
    let inv = c.loop-at.invariant in
    let bytes = ap (λ (s : Section). s.bytes) c.section.view_is in
    let inside = rw bytes at c.loop-at-test.true in
    let read = rw bytes at c.in-Ok.ensures.exact in
    sym (ended c.args.section.now (string_bytes c.loop-at.out) inv.0 c.loop-at.at c.in-Ok.extent (inv.1, inside) (sym read) (sym c.ends_section.ensures ∙ c.if-ends_section.true)) ∙ inv.2

pub returns : goal.returns
returns c =
    let inv = c.loop-at.invariant in
    let bytes = ap (λ (s : Section). s.bytes) c.section.view_is in
    let past-end = rw bytes at c.loop-at-test.false in
    sym (at-end c.args.section.now (string_bytes c.loop-at.out) inv.0 c.loop-at.at past-end) ∙ inv.2
