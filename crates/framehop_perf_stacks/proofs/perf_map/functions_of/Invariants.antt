use Rattle.std.proofs.Common.{◌≡◌, map, take}
use Rattle.framehop_perf_stacks.specs.PerfMap.{told_view, line_view}
use Rattle.framehop_perf_stacks.proofs.perf_map.functions_of.Given as goal

abbrev pub invariant-loop-line : goal.invariant-loop-line
invariant-loop-line l = map told_view l.functions.items ≡ map line_view (take l.line-index l.told)
