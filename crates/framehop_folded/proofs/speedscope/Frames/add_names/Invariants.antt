use Rattle.std.proofs.Common.{ℕ, List, map, take}
use Rattle.framehop_folded.specs.Speedscope.{AreFrames, with_names}
use Rattle.framehop_folded.proofs.speedscope.Frames.add_names.Given as goal

-- the frames are those of the names so far
abbrev pub invariant-loop-name : goal.invariant-loop-name
invariant-loop-name l = (names : List (List ℕ)) → AreFrames names l.fn.self
    → AreFrames (with_names names (map (λ name. name.now) (take l.name-index l.others))) l.self
