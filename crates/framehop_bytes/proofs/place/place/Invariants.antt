use Rattle.std.proofs.Common.{◌+◌, ◌<◌, ◌≤◌, ◌^◌}
use Rattle.framehop_bytes.proofs.Halving.{IsPart}
use Rattle.framehop_bytes.proofs.place.place.Given as goal

abbrev pub invariant-loop-most : goal.invariant-loop-most
invariant-loop-most g l = record {
  few : l.size < 2 ^ 63;
  most : l.size ≤ l.most + 1;
  part : IsPart (g.T.Starts.starts l.table) l.address l.low l.size;
}

abbrev pub decreases-loop-most : goal.decreases-loop-most
decreases-loop-most g l = l.most
