use Rattle.std.proofs.Common.{◌≡◌, map, drop}
use Rattle.std.specs.List.{find}
use Rattle.framehop_processes.specs.Code.{has_svma}
use Rattle.framehop_processes.specs.ObjectFiles.{part_view}
use Rattle.framehop_processes.proofs.code.bytes_from.Given as goal

abbrev pub invariant-loop-part : goal.invariant-loop-part
invariant-loop-part l = find (has_svma l.svma) (map (part_view l.file) l.initial.parts)
    ≡ find (has_svma l.svma) (map (part_view l.file) (drop l.part-index l.initial.parts))
