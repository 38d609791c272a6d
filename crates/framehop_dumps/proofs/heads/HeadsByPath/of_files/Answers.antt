use Rattle.std.proofs.Common.{◌<◌, length, map, ap, ◌∙◌, arith}
use Rattle.std.proofs.lemmas.List.{take_all}
use Rattle.framehop_dump_files.specs.Coredump.MappedFile.{mapped_file_view}
use Rattle.framehop_memory.specs.Memory.{memory_view}
use Rattle.framehop_dumps.specs.Heads.{beginning_head}
use Rattle.framehop_dumps.proofs.HeadLemmas.{one-more-kept}
use Rattle.framehop_dumps.proofs.heads.HeadsByPath.of_files.Goals as goal

pub loop-mapped-preserved : goal.loop-mapped-preserved
loop-mapped-preserved c = λ path.
    let l = c.loop-mapped in
    let files = c.args.files.now in
    let within : l.mapped-index < length files = omega arith in
    one-more-kept (memory_view c.args.memory.now) files l.mapped-index _ path _ _ within (c.in_ok-keep_beginning.ensures path) (l.invariant path)

pub returns : goal.returns
returns c = λ path.
    let l = c.loop-mapped in
    let files = c.args.files.now in
    l.invariant path
    ∙ ap (λ some. beginning_head (memory_view c.args.memory.now) (map mapped_file_view some) path) (take_all l.mapped-index files (omega arith))
