use Rattle.std.proofs.Common.{◌<◌, List, length, map, refl, ap, sym, ◌∙◌, arith}
use Rattle.std.specs.List.{flat_map}
use Rattle.std.proofs.lemmas.List.{take_all}
use Rattle.std.proofs.lemmas.List.Folds.{flat_map-map}
use Rattle.framehop_dump_files.specs.Coredump.MappedFile.{MappedFileView, mapped_file_view}
use Rattle.framehop_dumps.specs.CoreDump.{code_if}
use Rattle.framehop_dumps.specs.Dump.{MappedCodeView}
use Rattle.framehop_memory.specs.Memory.{memory_view}
use Rattle.framehop_dumps.proofs.DumpLemmas.{text-next}
use Rattle.framehop_dumps.proofs.HeadLemmas.{file-kept}
use Rattle.framehop_dumps.proofs.core_dump.code_of.Goals as goal

pub loop-mapped-preserved : goal.loop-mapped-preserved
loop-mapped-preserved c =
    let l = c.loop-mapped in
    let files = c.args.files.now in
    let memory = memory_view c.args.memory.now in
    let views = map mapped_file_view files in
    let within : l.mapped-index < length files = omega arith in
    let kept = c.file_at.ensures ∙ file-kept memory views _ _ (c.in_ok-heads.ensures _) in
    text-next (λ mapped. code_if memory c.args.dumped.now views (mapped_file_view mapped))
    files files refl l.mapped-index _ within _ _ l.invariant (c.in_ok-push_code.ensures _ kept)

pub returns : goal.returns
returns c =
    let l = c.loop-mapped in
    let files = c.args.files.now in
    let code : MappedFileView → List MappedCodeView = code_if (memory_view c.args.memory.now) c.args.dumped.now (map mapped_file_view files) in
    l.invariant ∙ ap (flat_map (λ mapped. code (mapped_file_view mapped))) (take_all l.mapped-index files (omega arith))
    ∙ sym (flat_map-map code mapped_file_view files)
