use Rattle.framehop.proofs.Quarters.{IsBetween}
use Rattle.framehop.proofs.module_list.count_up_to.Given as goal

abbrev pub invariant-loop-size : goal.invariant-loop-size
invariant-loop-size l = IsBetween l.starts l.address l.low l.size

abbrev pub decreases-loop-size : goal.decreases-loop-size
decreases-loop-size l = l.size

abbrev pub invariant-loop-size-2 : goal.invariant-loop-size-2
invariant-loop-size-2 l = IsBetween l.starts l.address l.low l.size

abbrev pub decreases-loop-size-2 : goal.decreases-loop-size-2
decreases-loop-size-2 l = l.size
