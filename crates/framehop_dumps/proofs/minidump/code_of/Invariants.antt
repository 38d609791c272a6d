use Rattle.std.proofs.Common.{◌≡◌, map, take}
use Rattle.std.specs.List.{flat_map}
use Rattle.framehop_dumps.specs.Dump.{mapped_code_view}
use Rattle.framehop_dumps.specs.Minidump.{loaded_view, code_in}
use Rattle.framehop_memory.specs.Memory.{memory_view}
use Rattle.framehop_dumps.proofs.minidump.code_of.Given as goal

abbrev pub invariant-loop-module : goal.invariant-loop-module
invariant-loop-module l =
    map mapped_code_view l.code.items
    ≡ flat_map (λ m. code_in (memory_view l.memory) l.files (loaded_view m)) (take l.module-index l.modules)
