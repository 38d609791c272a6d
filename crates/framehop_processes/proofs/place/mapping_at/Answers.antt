use Rattle.std.proofs.Common.{nat_le, sym, ◌∙◌, arith, rules}
use Rattle.std.proofs.lemmas.List.Sorted.{IsPartitionPoint-from_clause, IsPartitionedBy-leb}
use Rattle.framehop_processes.proofs.PlaceLemmas.{ends-rise, found-at}
use Rattle.framehop_processes.proofs.place.mapping_at.Goals as goal

pub returns : goal.returns
returns c =
    let ms = c.args.mappings.now in
    let place = c.partition_point-place.result in
    let point = IsPartitionPoint-from_clause (λ m. nat_le m.end c.args.address) ms place c.partition_point-place.ensures.partitioned
    (IsPartitionedBy-leb (λ m. m.end) ms c.args.address (ends-rise 0 ms c.requires)) (λ a r f' k. search rules) in
    let found = found-at c.args.address 0 ms place c.requires (λ k d below within. point.0 k d (omega arith) below)
    (λ k d from within. point.1 k d from within) in
    c.mapping_from.ensures ∙ sym found
