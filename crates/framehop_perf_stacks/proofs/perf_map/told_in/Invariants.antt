use Rattle.std.proofs.Common.{◌≡◌, map, take}
use Rattle.framehop_perf_stacks.specs.PerfMap.{functions_of, line_view}
use Rattle.framehop_perf_stacks.proofs.LinesLemmas.{now_of}
use Rattle.framehop_perf_stacks.proofs.perf_map.told_in.Given as goal

abbrev pub invariant-loop-line : goal.invariant-loop-line
invariant-loop-line l = map line_view l.told.items ≡ functions_of (map now_of (take l.line-index l.lines))
