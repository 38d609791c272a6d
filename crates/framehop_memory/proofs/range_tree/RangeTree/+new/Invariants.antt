use Rattle.std.proofs.Common.{length}
use Rattle.framehop_memory.proofs.range_tree.RangeTree.+new.Given as goal

abbrev pub decreases-new : goal.decreases-new
decreases-new l = length l.ranges.now
