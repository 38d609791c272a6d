use Rattle.std.proofs.Common.{◌≡◌, map, take}
use Rattle.framehop_dumps.specs.Minidump.{loaded_view, last_address}
use Rattle.framehop_dumps.proofs.minidump.last_address.Given as goal

abbrev pub invariant-loop-module : goal.invariant-loop-module
invariant-loop-module l = l.last ≡ last_address (map loaded_view (take l.module-index l.modules))
