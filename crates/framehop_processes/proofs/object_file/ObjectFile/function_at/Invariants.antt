use Rattle.std.proofs.Common.{◌≡◌, drop}
use Rattle.framehop_processes.specs.Place.{function_at}
use Rattle.framehop_processes.proofs.object_file.ObjectFile.function_at.Given as goal

abbrev pub invariant-loop-symbols : goal.invariant-loop-symbols
invariant-loop-symbols l =
    function_at (drop l.symbols-index l.self.symbols.items) l.svma ≡ function_at l.self.symbols.items l.svma
