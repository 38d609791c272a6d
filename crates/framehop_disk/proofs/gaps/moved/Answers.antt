use Rattle.std.proofs.Common.{◌≡◌, ◌-◌, true, false, nat_le, ap, ◌∙◌, arith, rules}
use Rattle.std.specs.List.Sorted.{IsPartitionPoint}
use Rattle.std.proofs.lemmas.List.Sorted.{IsPartitionPoint-from_clause, IsPartitionedBy-leb}
use Rattle.framehop_disk.specs.declared.gaps.Gap.{Gap}
use Rattle.framehop_disk.proofs.GapsLemmas.{ends-rise, left_out-tells}
use Rattle.framehop_disk.proofs.gaps.moved.Goals as goal

pub returns : goal.returns
returns c =
    let gaps = c.args.gaps.now in
    let offset = c.args.offset in
    let place = c.partition_point-count.result in
    let point : IsPartitionPoint (λ (g : Gap). nat_le g.end offset ≡ true) (λ (g : Gap). nat_le g.end offset ≡ false) gaps place
    = IsPartitionPoint-from_clause (λ g. nat_le g.end offset) gaps place
    c.partition_point-count.ensures.partitioned
    (IsPartitionedBy-leb (λ g. g.end) gaps offset (ends-rise 0 0 gaps c.requires)) (λ a r q k. search rules) in
    let said = left_out-tells offset gaps c.requires place c.partition_point-count.ensures.bound (λ k d below. point.0 k d (omega arith) below) point.1 in
    c.saturating_sub.ensures ∙ ap (λ before. offset - before) (c.so_far.ensures ∙ said)
