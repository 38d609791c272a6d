use Rattle.std.proofs.Common.{◌≡◌, ◌≤◌, false, length, drop}
use Rattle.std.specs.Fmt.{digits_onto, digits}
use Rattle.framehop_walk.proofs.printing.write_digits.Given as goal

abbrev pub invariant-loop-start : goal.invariant-loop-start
invariant-loop-start l = record {
  within : l.start ≤ 64;
  room : length l.text ≡ 64;
  written : digits_onto l.start 16 false l.rest (drop l.start l.text) ≡ digits 16 false l.number;
}

abbrev pub decreases-loop-start : goal.decreases-loop-start
decreases-loop-start l = l.start
