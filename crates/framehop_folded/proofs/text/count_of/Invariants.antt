use Rattle.std.proofs.Common.{◌≡◌, ◌<◌, ◌^◌, drop}
use Rattle.framehop_folded.specs.Text.{count_of}
use Rattle.framehop_folded.proofs.TextLemmas.{count_from}
use Rattle.framehop_folded.proofs.text.count_of.Given as goal

abbrev pub invariant-loop-digit : goal.invariant-loop-digit
invariant-loop-digit l = (count_of l.digits ≡ count_from l.count (drop l.digit-index l.digits)) × (l.count < 2 ^ 64)
