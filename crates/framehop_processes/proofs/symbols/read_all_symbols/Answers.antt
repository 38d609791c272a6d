use Rattle.std.proofs.Common.{[]}
use Rattle.framehop_processes.specs.ObjectFiles.{AreTables}
use Rattle.framehop_processes.proofs.symbols.read_all_symbols.Goals as goal

pub returns-clause-kept : goal.returns-clause-kept
returns-clause-kept c =
    let none : AreTables [] c.new-all.result.items = rw c.new-all.ensures.items tt in
    c.in_ok-push_symbols-2.ensures.kept _ (c.in_ok-push_symbols.ensures.kept [] none)
