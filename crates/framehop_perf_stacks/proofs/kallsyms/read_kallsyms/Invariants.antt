use Rattle.std.proofs.Common.{map, take}
use Rattle.framehop_perf_stacks.specs.Kallsyms.{functions_in, AreNamesOf}
use Rattle.framehop_perf_stacks.proofs.LinesLemmas.{now_of}
use Rattle.framehop_perf_stacks.proofs.kallsyms.read_kallsyms.Given as goal

abbrev pub invariant-loop-line : goal.invariant-loop-line
invariant-loop-line l = AreNamesOf (functions_in (map now_of (take l.line-index l.line-items))) l.names.by_start
