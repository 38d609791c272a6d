use Rattle.std.proofs.Common.{◌≡◌, ℕ, List, drop}
use Rattle.framehop_folded.specs.Folded.{entry_of}
use Rattle.framehop_disk.specs.Counted.{counted_by}
use Rattle.framehop_disk.proofs.counted.count_lines.Given as goal

-- to count the lines that are left is to count all
abbrev pub invariant-loop-line : goal.invariant-loop-line
invariant-loop-line l = (stack : List ℕ)
    → counted_by stack (entry_of l.counted stack) (drop l.line-index l.lines) ≡ counted_by stack (entry_of l.fn.counted stack) l.lines
