use Rattle.std.proofs.Common.{arith, refl, to_z, of_z}
use mir.Syntax.{w128}
use Rattle.std.proofs.lemmas.Int.{ints}
use Rattle.framehop_analysis.proofs.Aarch64Ends.{never, ends-at, read-more, no-end, only-end}
use Rattle.framehop_analysis.proofs.aarch64.instruction_analysis.epilogue.detect_epilogue.Goals as goal

pub loop-word-preserved : goal.loop-word-preserved
loop-word-preserved c =
    let found = c.in-Some.ensures in
    read-more _ _ _ c.in-Some.word _ _ c.loop-word.invariant found.0 found.1 c.step_instruction-detector.ensures.places
    c.step_instruction-detector.ensures.least c.step_instruction-detector.ensures.most

pub returns-then-not-is_end : goal.returns-then-not-is_end
returns-then-not-is_end c =
    no-end _ _ _ _ (λ is. never (c.if-is_restored.ensures.1 is)) c.loop-word.invariant c.in_default.ensures
    (λ ends. never (c.if-not-is_end.ensures.1 (ends-at _ _ _ (to_z w128 (of_z w128 c.loop-word.detector.sp_offset)) (omega (arith, ints)) ends)))

pub returns : goal.returns
returns c =
    only-end _ _ _ _ _ (λ is. never (c.if-is_restored.ensures.1 is)) c.loop-word.invariant c.in_default.ensures
    (ends-at _ _ (to_z w128 (of_z w128 c.loop-word.detector.sp_offset)) c.loop-word.detector.sp_offset (omega (arith, ints)) (c.if-not-is_end.ensures.0 refl)) c.rule.ensures
