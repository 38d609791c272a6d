use Rattle.std.proofs.Common.{take}
use Rattle.framehop_processes.specs.CodeMap.{AreNumberedOf}
use Rattle.framehop_processes.proofs.code_map.CodeFunctions.new.Given as goal

abbrev pub invariant-loop-number : goal.invariant-loop-number
invariant-loop-number l = AreNumberedOf l.fn.functions.items (take l.number l.fn.functions.items) l.by_address
