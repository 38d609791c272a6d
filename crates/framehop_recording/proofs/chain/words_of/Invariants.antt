use Rattle.std.proofs.Common.{◌≡◌, ◌≤◌, ◌+◌, ◌*◌, ◌++◌, length}
use Rattle.framehop_recording.specs.Chain.{words_from, words_of}
use Rattle.framehop_recording.proofs.chain.words_of.Given as goal

abbrev pub invariant-loop-left : goal.invariant-loop-left
invariant-loop-left l =
    (l.words.items ++ words_from l.bytes l.at l.left ≡ words_of l.bytes) × (l.at + 8 * l.left ≤ length l.bytes)

abbrev pub decreases-loop-left : goal.decreases-loop-left
decreases-loop-left l = l.left
