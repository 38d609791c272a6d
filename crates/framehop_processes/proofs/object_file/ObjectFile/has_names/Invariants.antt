use Rattle.std.proofs.Common.{◌≡◌, drop}
use Rattle.framehop_processes.specs.Found.{has_names}
use Rattle.framehop_processes.proofs.object_file.ObjectFile.has_names.Given as goal

abbrev pub invariant-loop-symbols : goal.invariant-loop-symbols
invariant-loop-symbols l = has_names (drop l.symbols-index l.self.symbols.items) ≡ has_names l.self.symbols.items
