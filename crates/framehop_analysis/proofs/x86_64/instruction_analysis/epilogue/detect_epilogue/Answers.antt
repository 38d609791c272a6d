use Rattle.std.proofs.Common.{refl}
use Rattle.framehop_analysis.proofs.Aarch64Ends.{never}
use Rattle.framehop_analysis.specs.Laws.X86_64.Pops.{read-more, no-end, only-end, popped-same}
use Rattle.framehop_analysis.proofs.x86_64.instruction_analysis.epilogue.detect_epilogue.Goals as goal

pub loop-size-preserved : goal.loop-size-preserved
loop-size-preserved c =
    read-more _ _ _ c.in-Some.size c.in-Some.is_bp _ _ c.loop-size.invariant c.in-Some.ensures.exact
    (popped-same (record { count = c.loop-size.pops; before_bp = c.loop-size.pops_before_bp }) c.in-Some.is_bp _ c.last_of_bp-pops_before_bp.ensures)

pub returns-then-not-is_end : goal.returns-then-not-is_end
returns-then-not-is_end c =
    no-end _ _ _ _ c.loop-size.invariant c.in_default.ensures.exact (λ ends. never (c.if-not-is_end.ensures.1 ends))

pub returns : goal.returns
returns c =
    only-end _ _ _ _ _ c.loop-size.invariant c.in_default.ensures.exact (c.if-not-is_end.ensures.0 refl) c.rule_of_pops.ensures
