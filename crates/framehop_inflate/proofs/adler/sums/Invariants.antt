use Rattle.std.proofs.Common.{◌≡◌, ◌+◌, ◌*◌, ◌%◌, ◌≤◌}
use Rattle.framehop_inflate.specs.Adler.{first_sum, second_sum}
use Rattle.framehop_inflate.proofs.adler.sums.Given as goal

abbrev pub invariant-loop-i : goal.invariant-loop-i
invariant-loop-i l = record {
  low : l.first + 255 * l.start ≤ 65521 + 255 * l.i;
  high : l.second + 1200000 * l.start ≤ 65521 + 1200000 * l.i;
  first : l.first % 65521 ≡ first_sum l.bytes l.i % 65521;
  second : l.second % 65521 ≡ second_sum l.bytes l.i % 65521;
}
