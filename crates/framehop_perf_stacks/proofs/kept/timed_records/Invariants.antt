use Rattle.std.proofs.Common.{◌≡◌, map, take}
use Rattle.framehop_perf_stacks.specs.Kept.{timed_view, kept_view}
use Rattle.framehop_perf_stacks.proofs.kept.timed_records.Given as goal

abbrev pub invariant-loop-index : goal.invariant-loop-index
invariant-loop-index l = map timed_view l.list.items ≡ map kept_view (take l.index l.kept)
