use Rattle.std.proofs.Common.{◌≡◌, ◌+◌, ◌++◌, take, drop}
use Rattle.framehop_processes.proofs.around.replace.Given as goal

abbrev pub invariant-loop-mapping : goal.invariant-loop-mapping
invariant-loop-mapping l =
    (l.list.items ≡ take l.from l.fn.list.items ++ (take l.mapping-index l.changed ++ drop l.to l.fn.list.items))
    × (l.at ≡ l.from + l.mapping-index)
