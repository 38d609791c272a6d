use Rattle.std.proofs.Common.{◌≡◌, ◌+◌, ◌≤◌, length, map}
use Rattle.framehop_recording.specs.Records.{record_view, run_in}
use Rattle.framehop_recording.proofs.RunLemmas.{joined}
use Rattle.framehop_recording.proofs.records.read_run.Given as goal

abbrev pub invariant-loop-rest : goal.invariant-loop-rest
invariant-loop-rest l =
    (l.offset + length l.rest ≤ l.fn.start + length l.fn.bytes)
    × (run_in l.fn.is_cut 0 l.fn.start l.fn.bytes ≡ joined (map record_view l.records.items) (run_in l.fn.is_cut 0 l.offset l.rest))

abbrev pub decreases-loop-rest : goal.decreases-loop-rest
decreases-loop-rest l = length l.rest
