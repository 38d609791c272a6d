-- What was found in a file.
use Rattle.std.specs.Prelude.{List, length, nat_eq, Bool, not}
use Rattle.std.specs.List.{list_any}
use Rattle.framehop_processes.specs.declared.symbols.Symbols.{Symbols}

-- a symbol table has a function
abbrev pub has_function : Symbols → Bool
has_function symbols = not (nat_eq (length symbols.table) 0)

-- one of them has
abbrev pub has_names : List Symbols → Bool
has_names tables = list_any has_function tables
