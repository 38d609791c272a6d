use Rattle.std.proofs.Common.{◌+◌, ◌-◌, ◌≤◌, ap, arith}
use Rattle.std.specs.Prelude.{slice_index_or}
use Rattle.std.proofs.lemmas.List.{get_or_default}
use Rattle.framehop_memory.specs.declared.memory.MemoryRange.{MemoryRange}
use Rattle.framehop_memory.proofs.RangeLemmas.{apart-more}
use Rattle.framehop_memory.proofs.ranges.are_apart.Goals as goal

pub loop-index-preserved : goal.loop-index-preserved
loop-index-preserved c = λ i j d below within.
    let ranges = c.args.ranges.now in
    let index = c.loop-index.index in
    let first : MemoryRange = record { start = 0; size = 0; offset = 0 } in
    let one = c.loop-index.auto.index in
    let inside = c.loop-index-test.true in
    let before = get_or_default ranges (index - 1) d first (omega (arith, inside, one)) in
    let here = get_or_default ranges index d first inside in
    let next : (slice_index_or ranges (index - 1) d).start + (slice_index_or ranges (index - 1) d).size ≤ (slice_index_or ranges index d).start =
    omega (arith, ap (λ (r : MemoryRange). r.start) before, ap (λ (r : MemoryRange). r.size) before, ap (λ (r : MemoryRange). r.start) here, c.if-next-range.false, c.if-next-range-2.false) in
    apart-more ranges index i j d one c.loop-index.invariant next below within
