use Rattle.std.proofs.Common.{◌≤◌, map, drop, length}
use Rattle.framehop_recording.specs.BuildIds.{file_build_id_view}
use Rattle.framehop_perf_stacks.specs.Files.{HasBuildIds}
use Rattle.framehop_perf_stacks.proofs.recording.build_ids_by_name.Given as goal

abbrev pub invariant-loop-left : goal.invariant-loop-left
invariant-loop-left l =
    (l.left ≤ length l.build_ids)
    × HasBuildIds (map file_build_id_view (drop l.left l.build_ids)) l.by_name

abbrev pub decreases-loop-left : goal.decreases-loop-left
decreases-loop-left l = l.left
