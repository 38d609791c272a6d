use Rattle.std.proofs.Common.{◌≡◌, ◌++◌, map, take}
use Rattle.std.specs.List.{flat_map}
use Rattle.framehop_dumps.specs.Dump.{mapped_code_view}
use Rattle.framehop_dumps.specs.Minidump.{loaded_view, segment_code}
use Rattle.framehop_dumps.proofs.minidump.push_segments.Given as goal

abbrev pub invariant-loop-segment : goal.invariant-loop-segment
invariant-loop-segment l =
    map mapped_code_view l.code.items ≡ map mapped_code_view l.fn.code.items
    ++ flat_map (segment_code l.head (loaded_view l.«module») l.base) (take l.segment-index l.segments)
