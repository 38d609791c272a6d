-- Symbol tables of files.
use Rattle.std.proofs.Common.{◌≡◌, ◌≢◌, ℕ, List, [], ◌∷◌, ◌++◌, length, Option, refl, arith}
use Rattle.framehop_processes.specs.ObjectFiles.{Listed, AreTables}
use Rattle.framehop_processes.specs.Files.{AreDebugTables, debug_tables_in}
use Rattle.framehop_processes.specs.Source.{SourceView}
use Rattle.framehop_processes.specs.declared.symbols.Symbols.{Symbols}

pub AreTables-append : (xs ys : List Listed) (ss ts : List Symbols) → AreTables xs ss → AreTables ys ts → AreTables (xs ++ ys) (ss ++ ts)
AreTables-append [] ys [] ts first second = second
AreTables-append [] ys (s ∷ ss) ts first second = absurd first
AreTables-append (x ∷ xs) ys [] ts first second = absurd first
AreTables-append (x ∷ xs) ys (s ∷ ss) ts first second = (first.0, AreTables-append xs ys ss ts first.1 second)

pub debug-given : (source : SourceView) (path link build_id : List ℕ) (given : Option (List ℕ)) → build_id ≢ []
    → source.gives_debug path build_id link given → AreDebugTables source path link build_id (debug_tables_in build_id given)
debug-given source path link [] given some gave = absurd (some refl)
debug-given source path link (byte ∷ bytes) given some gave = (given, gave, refl)

pub empty-of_length : (bytes : List ℕ) → length bytes ≡ 0 → bytes ≡ []
empty-of_length [] none = refl
empty-of_length (byte ∷ bytes) none = absurd (omega (arith, none))
