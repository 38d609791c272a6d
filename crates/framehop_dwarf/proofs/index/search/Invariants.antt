use Rattle.std.proofs.Common.{◌-◌, length}
use Rattle.framehop_dwarf.proofs.Searched.{IsSearchingBy}
use Rattle.framehop_dwarf.proofs.index.search.Given as goal

abbrev pub invariant-loop-place : goal.invariant-loop-place
invariant-loop-place l = IsSearchingBy l.tree l.fn.address l.place l.found l.count

abbrev pub decreases-loop-place : goal.decreases-loop-place
decreases-loop-place l = length l.tree - l.place
