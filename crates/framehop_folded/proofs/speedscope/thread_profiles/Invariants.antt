use Rattle.std.proofs.Common.{◌≡◌, ◌++◌, ℕ, List, map}
use Rattle.serde_json.specs.View.{view}
use Rattle.framehop_folded.specs.Speedscope.{AreFrames}
use Rattle.framehop_folded.proofs.SpeedscopeLemmas.{profile_of}
use Rattle.framehop_folded.proofs.speedscope.thread_profiles.Given as goal

-- the profiles so far before those that are left are all
abbrev pub invariant-loop-thread : goal.invariant-loop-thread
invariant-loop-thread l = (names : List (List ℕ)) → AreFrames names l.frames
    → map view l.profiles.items ++ map (profile_of names) l.thread-iterator ≡ map (profile_of names) l.initial.thread-iterator
