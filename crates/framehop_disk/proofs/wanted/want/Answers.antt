use Rattle.std.proofs.Common.{◌≡◌, true, false, nat_le, arith, rules}
use Rattle.std.specs.List.Sorted.{IsPartitionPoint}
use Rattle.std.proofs.lemmas.List.Sorted.{IsPartitionPoint-from_clause, IsPartitionedBy-leb}
use Rattle.framehop_disk.specs.declared.wanted.WantedSegment.{WantedSegment}
use Rattle.framehop_disk.specs.Wanted.{start_of}
use Rattle.framehop_disk.proofs.WantedLemmas.{IsBegun, new-of, wanting-of}
use Rattle.framehop_disk.proofs.wanted.want.Goals as goal

pub returns-then-last-segments-clause-new : goal.returns-then-last-segments-clause-new
returns-then-last-segments-clause-new c = λ order.
    let segments = c.args.segments.now in
    let address = c.args.address in
    let place = c.partition_point-later.result in
    let point : IsPartitionPoint (λ (s : WantedSegment). nat_le s.range.start address ≡ true) (λ (s : WantedSegment). nat_le s.range.start address ≡ false) segments place
    = IsPartitionPoint-from_clause (λ s. nat_le s.range.start address) segments place
    c.partition_point-later.ensures.partitioned
    (IsPartitionedBy-leb start_of segments address order) (λ a r q k. search rules) in
    let begun : IsBegun address segments place = record { below = λ k d less. point.0 k d (omega arith) less; above = point.1 } in
    new-of address segments place c.saturating_sub-last.result _ c.want.new.self c.want.result c.want.ensures.wanted c.want.ensures.new (search rules) c.saturating_sub-last.ensures
    c.partition_point-later.ensures.bound begun (omega arith)

pub returns-then-last-segments-clause-wanted : goal.returns-then-last-segments-clause-wanted
returns-then-last-segments-clause-wanted c = λ order.
    let segments = c.args.segments.now in
    let address = c.args.address in
    let place = c.partition_point-later.result in
    let point : IsPartitionPoint (λ (s : WantedSegment). nat_le s.range.start address ≡ true) (λ (s : WantedSegment). nat_le s.range.start address ≡ false) segments place
    = IsPartitionPoint-from_clause (λ s. nat_le s.range.start address) segments place
    c.partition_point-later.ensures.partitioned
    (IsPartitionedBy-leb start_of segments address order) (λ a r q k. search rules) in
    let begun : IsBegun address segments place = record { below = λ k d less. point.0 k d (omega arith) less; above = point.1 } in
    wanting-of address segments place c.saturating_sub-last.result _ c.want.new.self c.want.ensures.wanted (search rules) c.saturating_sub-last.ensures
    c.partition_point-later.ensures.bound begun (omega arith)
