use Rattle.std.proofs.Common.{◌≡◌, drop}
use Rattle.framehop_disk.specs.Unasked.{end_of_code}
use Rattle.framehop_disk.proofs.unasked.end_of_code.Given as goal

abbrev pub invariant-loop-segment : goal.invariant-loop-segment
invariant-loop-segment l = end_of_code l.last (drop l.segment-index l.headers) ≡ end_of_code l.end l.headers
