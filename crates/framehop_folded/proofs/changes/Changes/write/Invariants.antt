use Rattle.std.proofs.Common.{◌≡◌, ◌++◌, List, ℕ}
use Rattle.std.specs.Io.KnownBytes.{Appends}
use Rattle.framehop_folded.specs.Changes.{change_lines}
use Rattle.framehop_folded.proofs.changes.Changes.write.Given as goal

abbrev pub invariant-loop-stack : goal.invariant-loop-stack
invariant-loop-stack g l = (written : List ℕ) × (written ++ change_lines l.self.old l.stack-iterator ≡ change_lines l.self.old l.self.new.counts.entries)
    × Appends l.initial.out.bytes l.out.bytes written
    × (l.out.has_failed ≡ l.initial.out.has_failed)
