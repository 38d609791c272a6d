use Rattle.std.proofs.Common.{ℕ, List, subst}
use Rattle.framehop_recording.specs.Mapping.{mapping_view}
use Rattle.framehop_processes.specs.Files.{IsAdded}
use Rattle.framehop_perf_stacks.proofs.recording.add_file.Goals as goal

pub returns-clause-added : goal.returns-clause-added
returns-clause-added g c = λ recorded has.
    let added = subst (λ (wanted : List ℕ). IsAdded (g.S.FileSource.source c.args.source.now) (mapping_view c.args.mapping.now).name wanted c.args.files.now c.add.new.self)
    (c.wanted-build_id.ensures recorded has) c.in_ok-add.ensures.either in
    (c.add.new.self, added, c.in_ok-add_map.ensures)
