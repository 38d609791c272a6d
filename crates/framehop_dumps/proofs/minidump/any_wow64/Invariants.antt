use Rattle.std.proofs.Common.{◌≡◌, drop, map}
use Rattle.std.specs.List.{list_any}
use Rattle.framehop_dumps.specs.Minidump.{loaded_view, is_wow64}
use Rattle.framehop_dumps.proofs.minidump.any_wow64.Given as goal

abbrev pub invariant-loop-module : goal.invariant-loop-module
invariant-loop-module l =
    list_any is_wow64 (map loaded_view l.modules) ≡ list_any is_wow64 (map loaded_view (drop l.module-index l.modules))
