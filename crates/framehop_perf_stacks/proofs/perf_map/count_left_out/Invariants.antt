use Rattle.std.proofs.Common.{◌≡◌, ◌≤◌, map, take}
use Rattle.std.specs.Prelude.{count_by}
use Rattle.framehop_perf_stacks.specs.PerfMap.{is_left_out}
use Rattle.framehop_perf_stacks.proofs.LinesLemmas.{now_of}
use Rattle.framehop_perf_stacks.proofs.perf_map.count_left_out.Given as goal

abbrev pub invariant-loop-line : goal.invariant-loop-line
invariant-loop-line l =
    (l.count ≡ count_by is_left_out (map now_of (take l.line-index l.lines))) × (l.count ≤ l.line-index)
