use Rattle.std.proofs.Common.{◌≡◌, take}
use Rattle.std.specs.List.{filter}
use Rattle.framehop_processes.specs.ObjectFiles.{is_so_plain}
use Rattle.framehop_processes.proofs.plainness.by_plainness.Given as goal

abbrev pub invariant-loop-function : goal.invariant-loop-function
invariant-loop-function l =
    (l.ordered.items ≡ filter (is_so_plain l.names 0) (take l.function-index l.functions))
    × (l.underscored.items ≡ filter (is_so_plain l.names 1) (take l.function-index l.functions))
    × (l.plainest.items ≡ filter (is_so_plain l.names 2) (take l.function-index l.functions))
