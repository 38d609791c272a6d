use Rattle.std.proofs.Common.{◌≡◌, vec_len}
use Rattle.framehop_cfi.proofs.remembered_copies.spare_rows.Given as goal

abbrev pub invariant-loop-made : goal.invariant-loop-made
invariant-loop-made g l = vec_len l.rows ≡ l._made
