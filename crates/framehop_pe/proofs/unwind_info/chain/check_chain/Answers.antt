use Rattle.std.proofs.Common.{refl, arith}
use Rattle.std.proofs.lemmas.Result.{err_from_is_err_and}
use Rattle.framehop_pe.specs.Sections.{sections_of}
use Rattle.framehop_pe.specs.Info.{read_by}
use Rattle.framehop_pe.proofs.Chains.{Leads-full, Leads-refused, Leads-more, Leads-end}
use Rattle.framehop_pe.proofs.unwind_info.chain.check_chain.Goals as goal

pub returns-then-left-eq0 : goal.returns-then-left-eq0
returns-then-left-eq0 g c =
    let s = sections_of g.D.SectionBytes.contents c.args.sections.now in
    Leads-full s c.loop-next.left c.in-Some.rva 32 c.args.chained c.if-left-eq0.true (rw (c.in-Some.is) at c.loop-next.invariant)

pub returns-in_err-info : goal.returns-in_err-info
returns-in_err-info g c =
    let s = sections_of g.D.SectionBytes.contents c.args.sections.now in
    let p = err_from_is_err_and c.from_residual.result c.from_residual.ensures.1 in
    let refused = Leads-refused s c.loop-next.left c.in-Some.rva 32 c.args.chained c.in_err-info.field-0.0 (omega (arith, c.if-left-eq0.false)) c.in_err-info.ensures (rw (c.in-Some.is) at c.loop-next.invariant) in
    rw (p.1, p.2) refused

pub loop-next-preserved : goal.loop-next-preserved
loop-next-preserved g c =
    let s = sections_of g.D.SectionBytes.contents c.args.sections.now in
    Leads-more s c.loop-next.left _ c.in-Some.rva 32 c.args.chained (read_by c.in_ok-info.info) (omega (arith, c.if-left-eq0.false)) refl c.in_ok-info.ensures (rw (c.in-Some.is) at c.loop-next.invariant)

pub returns : goal.returns
returns g c =
    let s = sections_of g.D.SectionBytes.contents c.args.sections.now in
    Leads-end s c.loop-next.left 32 c.args.chained (rw (c.in_default.is) at c.loop-next.invariant)
