use Rattle.std.proofs.Common.{◌≡◌, ◌++◌, List, ℕ}
use Rattle.std.specs.Io.KnownBytes.{Appends}
use Rattle.framehop_folded.specs.Folded.{entries_of}
use Rattle.framehop_perf_stacks.specs.Json.{counted_lines}
use Rattle.framehop_perf_stacks.proofs.json_report.write_counted.Given as goal

abbrev pub invariant-loop-text : goal.invariant-loop-text
invariant-loop-text g l = (written : List ℕ) × (written ++ counted_lines l.text-iterator ≡ counted_lines (entries_of l.folded))
    × Appends l.initial.out.bytes l.out.bytes written
    × (l.out.has_failed ≡ l.initial.out.has_failed)
