use Rattle.std.proofs.Common.{◌≡◌, ◌-◌, ◌%◌, ◌≤◌, length}
use Rattle.framehop_inflate.specs.Adler.{first_sum, second_sum}
use Rattle.framehop_inflate.proofs.adler.adler32.Given as goal

abbrev pub invariant-loop-at : goal.invariant-loop-at
invariant-loop-at l = record {
  within : l.at ≤ length l.bytes;
  first : l.first ≡ first_sum l.bytes l.at % 65521;
  second : l.second ≡ second_sum l.bytes l.at % 65521;
}

abbrev pub decreases-loop-at : goal.decreases-loop-at
decreases-loop-at l = length l.bytes - l.at
