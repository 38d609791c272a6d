use Rattle.std.proofs.Common.{◌≡◌, length}
use Rattle.framehop_pe.specs.Epilog.{pops_in}
use Rattle.framehop_pe.proofs.unwind_info.epilog.skip_pops.Given as goal

abbrev pub invariant-loop-size : goal.invariant-loop-size
invariant-loop-size l = (pops_in 0 l.rest).1 ≡ (pops_in 0 l.bytes).1

abbrev pub decreases-loop-size : goal.decreases-loop-size
decreases-loop-size l = length l.rest
