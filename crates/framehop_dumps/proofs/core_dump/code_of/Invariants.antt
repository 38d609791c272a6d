use Rattle.std.proofs.Common.{◌≡◌, map, take}
use Rattle.std.specs.List.{flat_map}
use Rattle.framehop_dump_files.specs.Coredump.MappedFile.{mapped_file_view}
use Rattle.framehop_dumps.specs.CoreDump.{code_if}
use Rattle.framehop_dumps.specs.Dump.{mapped_code_view}
use Rattle.framehop_memory.specs.Memory.{memory_view}
use Rattle.framehop_dumps.proofs.core_dump.code_of.Given as goal

abbrev pub invariant-loop-mapped : goal.invariant-loop-mapped
invariant-loop-mapped l =
    map mapped_code_view l.code.items
    ≡ flat_map (λ mapped. code_if (memory_view l.memory) l.dumped (map mapped_file_view l.files) (mapped_file_view mapped)) (take l.mapped-index l.files)
