use Rattle.std.proofs.Common.{sym, ◌∙◌}
use Rattle.framehop_pe.proofs.Pops.{pops_in-behind, pops_in-end}
use Rattle.framehop_pe.proofs.unwind_info.epilog.skip_pops.Goals as goal

pub loop-size-preserved : goal.loop-size-preserved
loop-size-preserved c =
    sym (pops_in-behind c.loop-size.rest.now c.skip_bytes-rest.result.now c.in-Some.field-0-0 c.in-Some.size c.in-Some.ensures.exact c.in-Some.ensures.within c.skip_bytes-rest.ensures) ∙ c.loop-size.invariant

pub returns : goal.returns
returns c = sym (pops_in-end c.loop-size.rest.now c.in_default.ensures.exact) ∙ c.loop-size.invariant
