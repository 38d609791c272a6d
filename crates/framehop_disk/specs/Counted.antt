-- Folded stacks that are read, counted as they are printed.
use Rattle.std.specs.Prelude.{ℕ, nat_eq, List, Option, Some, if◌then◌else◌}
use Rattle.std.specs.Cmp.Lexicographic.{pointwise}
use Rattle.std.specs.List.{fold}
use Rattle.framehop_folded.specs.Folded.{together}
use Rattle.framehop_folded.specs.declared.text.FoldedLine.{FoldedLine}
use Rattle.framehop_disk.specs.Printed.{printed_text}

-- the count of a stack with that of a line, if the line's stack is printed so
abbrev pub with_line : List ℕ → Option ℕ → FoldedLine → Option ℕ
with_line stack count line =
    if pointwise nat_eq (printed_text line.stack.items) stack then together count (Some line.count) else count

-- the same of lines, one after another
abbrev pub counted_by : List ℕ → Option ℕ → List FoldedLine → Option ℕ
counted_by stack count lines = fold (with_line stack) count lines
