use Rattle.std.proofs.Common.{◌≡◌, drop, length, map}
use Rattle.std.specs.List.{sum_by}
use Rattle.framehop_dump_files.specs.Coredump.MappedFile.{mapped_file_view}
use Rattle.framehop_memory.specs.Memory.{memory_view}
use Rattle.framehop_dumps.specs.SharedHeaders.{left_after, mapped_size}
use Rattle.framehop_dumps.proofs.shared_headers.check_mapped_files.Given as goal

abbrev pub invariant-loop-mapped : goal.invariant-loop-mapped
invariant-loop-mapped l =
    left_after l.left (sum_by (mapped_size (memory_view l.memory)) (map mapped_file_view (drop l.mapped-index l.files)))
    ≡ left_after (length (memory_view l.memory).file) (sum_by (mapped_size (memory_view l.memory)) (map mapped_file_view l.files))
