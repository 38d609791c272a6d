-- Folded stacks of two runs beside one another (Brendan Gregg's FlameGraph, `difffolded.pl`).
use Rattle.std.specs.Prelude.{ℕ, List, [], ◌∷◌, ◌++◌}
use Rattle.std.specs.Fmt.{decimal}
use Rattle.std.specs.Global.{Global}
use Rattle.std.specs.declared.vec.Vec.{Vec}
use Rattle.framehop_folded.specs.Folded.{entries_of, count_in}
use Rattle.framehop_folded.specs.declared.changes.Changes.{Changes}
use Rattle.framehop_folded.specs.declared.folded.Folded.{Folded}

-- a stack, its count in the first run and in the second, each after a blank, and a line feed
abbrev pub change_line : List ℕ → ℕ → ℕ → List ℕ
change_line stack old new = stack ++ 32 ∷ decimal old ++ 32 ∷ decimal new ++ 10 ∷ []

abbrev pub change_lines : Folded → List (Vec ℕ Global × ℕ) → List ℕ
change_lines old [] = []
change_lines old (entry ∷ entries) = change_line entry.0.items (count_in old entry.0.items) entry.1 ++ change_lines old entries

-- each stack with both counts, in the order of their bytes
abbrev pub changes_text : Changes → List ℕ
changes_text changes = change_lines changes.old (entries_of changes.new)
