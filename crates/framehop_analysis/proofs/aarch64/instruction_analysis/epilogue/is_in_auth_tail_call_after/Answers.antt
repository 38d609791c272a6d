use Rattle.framehop_analysis.specs.Laws.Aarch64.Ends.{inside-iff, not-inside}
use Rattle.framehop_analysis.proofs.aarch64.instruction_analysis.epilogue.is_in_auth_tail_call_after.Goals as goal

pub returns-in-Some : goal.returns-in-Some
returns-in-Some c = inside-iff _ _ c.args.before c.in-Some.len c.if-pc_offset-before.false c.in-Some.ensures

pub returns-in-None : goal.returns-in-None
returns-in-None c = (λ t. cc, λ i. absurd (not-inside _ _ _ c.in-None.ensures i))
