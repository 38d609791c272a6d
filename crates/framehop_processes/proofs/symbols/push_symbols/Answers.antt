use Rattle.std.proofs.Common.{rules, [], ◌∷◌, option_to_list}
use Rattle.framehop_processes.proofs.FileLemmas.{AreTables-append}
use Rattle.framehop_processes.specs.ObjectFiles.{symbols_called, AreTables}
use Rattle.framehop_processes.proofs.symbols.push_symbols.Goals as goal

pub returns-clause-kept : goal.returns-clause-kept
returns-clause-kept c = λ listed tables.
    let found = option_to_list (symbols_called c.args.elf.now c.args.name.now) in
    let kept : AreTables found (c.in-Some.symbols ∷ []) = search rules in
    let both = AreTables-append listed found c.args.all.now.items (c.in-Some.symbols ∷ []) tables kept in
    search (rules, both)
