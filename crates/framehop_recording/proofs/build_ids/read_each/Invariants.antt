use Rattle.std.proofs.Common.{◌≡◌, map, drop}
use Rattle.framehop_recording.specs.Bytes.{each_of}
use Rattle.framehop_recording.specs.Records.{record_view}
use Rattle.framehop_recording.specs.BuildIds.{file_build_id_at, file_build_id_view}
use Rattle.framehop_recording.proofs.EachLemmas.{prepended}
use Rattle.framehop_recording.proofs.build_ids.read_each.Given as goal

abbrev pub invariant-loop-index : goal.invariant-loop-index
invariant-loop-index l =
    each_of file_build_id_at (map record_view l.records)
    ≡ prepended (map file_build_id_view l.build_ids.items) (each_of file_build_id_at (map record_view (drop l.index l.records)))
