use Rattle.std.proofs.Common.{length, refl, sym, ◌∙◌, arith}
use Rattle.framehop_check.specs.Sections.{padding_size}
use Rattle.framehop_check.proofs.SectionLemmas.{padding-end, padding-none, padding-follows}
use Rattle.framehop_check.proofs.sections.padding_size.Goals as goal

pub loop-at-init : goal.loop-at-init
unfolding padding_size
loop-at-init g c = (length c.args.code.now, omega arith, refl)

pub loop-at-preserved : goal.loop-at-preserved
loop-at-preserved g c =
    let inv = c.loop-at.invariant in
    let next = padding-follows g.C.Code.instruction c.args.code.now inv.0 c.loop-at.at c.in-Some.size inv.1 c.loop-at-test.true
    (sym c.padding_at.ensures.exact ∙ c.in-Some.is) c.in-Some.ensures.sized.0 in
    (next.0, next.1, sym next.2 ∙ inv.2)

pub returns-in-None : goal.returns-in-None
returns-in-None g c =
    let inv = c.loop-at.invariant in
    sym (padding-none g.C.Code.instruction c.args.code.now inv.0 c.loop-at.at inv.1 c.loop-at-test.true (sym c.padding_at.ensures.exact ∙ c.in-None.is))
    ∙ inv.2

pub returns : goal.returns
returns g c =
    let inv = c.loop-at.invariant in
    sym (padding-end g.C.Code.instruction c.args.code.now inv.0 c.loop-at.at c.loop-at-test.false) ∙ inv.2
