use Rattle.std.proofs.Common.{◌≡◌, drop}
use Rattle.framehop_frames.specs.Unseen.{has_unseen_after}
use Rattle.framehop_frames.proofs.unseen.has_unseen.Given as goal

abbrev pub invariant-loop-third : goal.invariant-loop-third
invariant-loop-third l = has_unseen_after 0 0 l.text ≡ has_unseen_after l.first l.second (drop l.third-index l.text)
