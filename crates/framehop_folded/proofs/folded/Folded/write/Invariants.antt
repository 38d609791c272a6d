use Rattle.std.proofs.Common.{◌≡◌, ◌++◌, List, ℕ}
use Rattle.std.specs.Io.KnownBytes.{Appends}
use Rattle.framehop_folded.specs.Folded.{folded_lines}
use Rattle.framehop_folded.proofs.folded.Folded.write.Given as goal

abbrev pub invariant-loop-stack : goal.invariant-loop-stack
invariant-loop-stack g l = (written : List ℕ) × (written ++ folded_lines l.stack-iterator ≡ folded_lines l.self.counts.entries)
    × Appends l.initial.out.bytes l.out.bytes written
    × (l.out.has_failed ≡ l.initial.out.has_failed)
