use Rattle.std.proofs.Common.{◌≡◌, ℕ, ◌-◌, ◌<◌, ◌≤◌, get_or, true, false}
use Rattle.framehop_disk.specs.Paths.{is_separator}
use Rattle.framehop_disk.proofs.paths.file_name_of.Given as goal

abbrev pub invariant-loop-at : goal.invariant-loop-at
invariant-loop-at l = record {
  low : l.start ≤ l.at;
  none : (k : ℕ) → l.start ≤ k → k < l.at → is_separator (get_or l.path k 0) ≡ false;
  one : 0 < l.start → is_separator (get_or l.path (l.start - 1) 0) ≡ true;
}
