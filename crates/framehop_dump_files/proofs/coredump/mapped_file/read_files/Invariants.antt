use Rattle.std.proofs.Common.{◌≡◌, drop, map, List}
use Rattle.framehop_dump_files.specs.declared.coredump.mapped_file.MappedFile.{MappedFile}
use Rattle.framehop_bytes.specs.Gathered.{IsGathered}
use Rattle.framehop_dump_files.proofs.GatherLemmas.{prepended}
use Rattle.framehop_dump_files.specs.Coredump.MappedFile.{mapped_file_view, files_of}
use Rattle.framehop_dump_files.proofs.coredump.mapped_file.read_files.Given as goal

abbrev pub invariant-loop-entry : goal.invariant-loop-entry
invariant-loop-entry l =
    (before : List MappedFile) × IsGathered before l.files
    × (files_of l.offset l.page_size l.entries l.fn.paths
    ≡ prepended (map mapped_file_view before) (files_of l.offset l.page_size (drop l.entry-index l.entries) l.rest))
