use Rattle.std.proofs.Common.{subst, ap}
use Rattle.framehop.specs.CallFrames.{CallFrames}
use Rattle.framehop_explain.specs.Count.{IsFramesCount}
use Rattle.framehop_explain.specs.declared.count.UnwindDataCount.TheVariants.{Fdes}
use Rattle.framehop_explain.proofs.count.count_fdes.Goals as goal

pub returns : goal.returns
returns g c =
    subst (λ (frames : CallFrames). IsFramesCount frames frames.header (Fdes c.len.result)) c.frames.view_is
    (c.frames.inside.index, c.frames.invariant, ap Fdes c.len.ensures)
