use Rattle.std.proofs.Common.{map, take}
use Rattle.framehop_dump_files.specs.Coredump.MappedFile.{mapped_file_view}
use Rattle.framehop_memory.specs.Memory.{memory_view}
use Rattle.framehop_dumps.specs.Heads.{HasBeginnings}
use Rattle.framehop_dumps.proofs.heads.HeadsByPath.of_files.Given as goal

abbrev pub invariant-loop-mapped : goal.invariant-loop-mapped
invariant-loop-mapped l = HasBeginnings (memory_view l.memory) (map mapped_file_view (take l.mapped-index l.files)) l.heads.by_path
