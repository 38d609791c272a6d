use Rattle.std.proofs.Common.{map, drop}
use Rattle.framehop_recording.specs.BuildIds.{file_build_id_view}
use Rattle.framehop_recording.specs.Mapping.{mapping_view}
use Rattle.framehop_processes.specs.Files.{IsWithoutFiles}
use Rattle.framehop_perf_stacks.specs.Files.{AreAdded}
use Rattle.framehop_processes.specs.declared.files.Files.{Files}
use Rattle.framehop_perf_stacks.proofs.recording.read_files.Given as goal

abbrev pub invariant-loop-mapping : goal.invariant-loop-mapping
invariant-loop-mapping g l =
    (none : Files) × IsWithoutFiles none × ((last : Files)
    → AreAdded (g.S.FileSource.source l.source) (g.S.MapSource.gives_map l.source) (map file_build_id_view l.recording.build_ids.items)
    (map (λ mapping. mapping_view mapping) (drop l.mapping-index l.mapping-items)) l.files last
    → AreAdded (g.S.FileSource.source l.source) (g.S.MapSource.gives_map l.source) (map file_build_id_view l.recording.build_ids.items)
    (map (λ mapping. mapping_view mapping) l.mapping-items) none last)
