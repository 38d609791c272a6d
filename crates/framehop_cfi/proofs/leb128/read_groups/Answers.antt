use Rattle.std.proofs.Common.{arith, below_more, refl}
use Rattle.framehop_cfi.proofs.Leb.{groups-end, groups-last, groups-long, sum-more, below-after}
use Rattle.framehop_cfi.proofs.leb128.read_groups.Goals as goal

pub returns-then-next-bytes-clause-exact : goal.returns-then-next-bytes-clause-exact
returns-then-next-bytes-clause-exact c =
    groups-end c.args.bytes.now c.args.at c.loop-count.count c.loop-count.invariant.continued (omega arith) (omega arith)

pub returns-then-byte-lt128-clause-exact : goal.returns-then-byte-lt128-clause-exact
returns-then-byte-lt128-clause-exact c =
    groups-last c.args.bytes.now c.args.at c.loop-count.count c.loop-count.invariant.continued (omega arith)
    (omega arith) (rw (← c.loop-count.invariant.place) c.if-byte-lt128.true) _ _ _
    (sum-more c.args.bytes.now c.args.at c.loop-count.count c.loop-count.next c.loop-count.sum c.from.result
    (omega arith) (omega arith) c.from.ensures c.loop-count.invariant.sum_so_far) refl (omega arith)

pub returns-then-byte-lt128-clause-bits : goal.returns-then-byte-lt128-clause-bits
returns-then-byte-lt128-clause-bits c = (
  omega arith,
  omega arith,
  below-after c.args.bytes.now c.args.at c.loop-count.count c.loop-count.next
      c.loop-count.sum c.from.result (omega arith) (omega arith) c.from.ensures c.loop-count.invariant.sum_so_far
      c.loop-count.invariant.below,
)

pub loop-count-preserved : goal.loop-count-preserved
loop-count-preserved c = record {
  place = omega arith;
  continued = below_more _ _ c.loop-count.invariant.continued (rw (← c.loop-count.invariant.place) c.if-byte-lt128.false);
  sum_so_far = sum-more c.args.bytes.now c.args.at c.loop-count.count c.loop-count.next c.loop-count.sum c.from.result (omega arith) (omega arith) c.from.ensures c.loop-count.invariant.sum_so_far;
  below = below-after c.args.bytes.now c.args.at c.loop-count.count c.loop-count.next c.loop-count.sum c.from.result
      (omega arith) (omega arith) c.from.ensures c.loop-count.invariant.sum_so_far c.loop-count.invariant.below;
}

pub returns-clause-exact : goal.returns-clause-exact
returns-clause-exact c =
    groups-long c.args.bytes.now c.args.at c.loop-count.count c.loop-count.invariant.continued (omega arith)
