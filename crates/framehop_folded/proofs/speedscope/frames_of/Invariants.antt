use Rattle.std.proofs.Common.{[], map, take}
use Rattle.framehop_folded.specs.Speedscope.{AreFrames, names_among, stack_view}
use Rattle.framehop_folded.proofs.speedscope.frames_of.Given as goal

-- the frames are those of the stacks so far
abbrev pub invariant-loop-stack : goal.invariant-loop-stack
invariant-loop-stack l = AreFrames (names_among [] (map stack_view (take l.stack-index l.stacks))) l.frames
