use Rattle.std.proofs.Common.{◌≡◌, ◌≢◌, ℕ, ◌-◌, ◌<◌, ◌≤◌, get_or}
use Rattle.framehop_dumps.proofs.minidump.file_name.Given as goal

abbrev pub invariant-loop-at : goal.invariant-loop-at
invariant-loop-at l = (l.start ≤ l.at) × ((k : ℕ) → l.start ≤ k → k < l.at → get_or l.path k 0 ≢ l.separator)
    × (0 < l.start → get_or l.path (l.start - 1) 0 ≡ l.separator)
