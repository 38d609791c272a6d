use Rattle.std.proofs.Common.{nat_le, ◌∙◌, rules}
use Rattle.std.proofs.lemmas.List.Sorted.{IsPartitionPoint-from_clause, IsPartitionedBy-leb}
use Rattle.framehop_processes.proofs.MappingLemmas.{ends-rise, taken-ending_by, order-dropped}
use Rattle.framehop_processes.proofs.around.split_ending_by.Goals as goal

pub returns-clause-before : goal.returns-clause-before
returns-clause-before c =
    let ms = c.args.mappings.now in
    let point = IsPartitionPoint-from_clause (λ m. nat_le m.end c.args.address) ms c.partition_point-place.result
    c.partition_point-place.ensures.partitioned
    (IsPartitionedBy-leb (λ m. m.end) ms c.args.address (ends-rise 0 ms c.requires)) (λ a r f' k. search rules) in
    c.split_at.ensures.front ∙ taken-ending_by c.args.address ms c.partition_point-place.result point

pub returns-clause-ordered : goal.returns-clause-ordered
returns-clause-ordered c =
    rw c.split_at.ensures.back (order-dropped c.partition_point-place.result 0 c.args.mappings.now c.requires)
