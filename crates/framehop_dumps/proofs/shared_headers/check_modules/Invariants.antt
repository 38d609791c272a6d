use Rattle.std.proofs.Common.{◌≡◌, drop, length, map}
use Rattle.std.specs.List.{sum_by}
use Rattle.framehop_memory.specs.Memory.{memory_view}
use Rattle.framehop_dumps.specs.Minidump.{loaded_view, module_size}
use Rattle.framehop_dumps.specs.SharedHeaders.{left_after}
use Rattle.framehop_dumps.proofs.shared_headers.check_modules.Given as goal

abbrev pub invariant-loop-module : goal.invariant-loop-module
invariant-loop-module l =
    left_after l.left (sum_by (module_size (memory_view l.memory)) (map loaded_view (drop l.module-index l.modules)))
    ≡ left_after (length (memory_view l.memory).file) (sum_by (module_size (memory_view l.memory)) (map loaded_view l.modules))
