use Rattle.std.proofs.Common.{◌≡◌, ◌≤◌, ◌++◌, drop}
use Rattle.std.specs.Prelude.{slice_range}
use Rattle.framehop_disk.specs.Printed.{printed_from, printed_text}
use Rattle.framehop_disk.proofs.printed.printed_text.Given as goal

-- what was printed, and what is left with the part that has begun, are all
abbrev pub invariant-loop-at : goal.invariant-loop-at
invariant-loop-at l = record {
  low : l.start ≤ l.at;
  printed : l.printed.items ++ printed_from (slice_range l.text l.start l.at) (drop l.at l.text) ≡ printed_text l.text;
}
