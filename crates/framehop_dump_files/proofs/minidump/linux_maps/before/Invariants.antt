use Rattle.std.proofs.Common.{◌≡◌, ◌<◌, ℕ, ◌==◌, false, slice_index}
use Rattle.framehop_dump_files.proofs.minidump.linux_maps.before.Given as goal

abbrev pub invariant-loop-end : goal.invariant-loop-end
invariant-loop-end l = (k : ℕ) → k < l.end → (slice_index l.bytes k == l.code) ≡ false
