use Rattle.std.proofs.Common.{◌≡◌, vec_len}
use Rattle.framehop_backtrace.proofs.kept.RowRoom.new_in.Given as goal

abbrev pub invariant-loop-made : goal.invariant-loop-made
invariant-loop-made g l = vec_len l.contexts ≡ l._made
