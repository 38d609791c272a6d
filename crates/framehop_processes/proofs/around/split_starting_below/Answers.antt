use Rattle.std.proofs.Common.{nat_lt, ◌∙◌, rules}
use Rattle.std.proofs.lemmas.List.Sorted.{IsPartitionPoint-from_clause, IsPartitionedBy-ltb}
use Rattle.framehop_processes.proofs.MappingLemmas.{starts-rise, dropped-starting_from}
use Rattle.framehop_processes.proofs.around.split_starting_below.Goals as goal

pub returns-clause-after : goal.returns-clause-after
returns-clause-after c =
    let ms = c.args.mappings.now in
    let point = IsPartitionPoint-from_clause (λ m. nat_lt m.start c.args.address) ms c.partition_point-place.result
    c.partition_point-place.ensures.partitioned
    (IsPartitionedBy-ltb (λ m. m.start) ms c.args.address (starts-rise 0 ms c.requires))
    (λ a r f' k. search rules) in
    c.split_at.ensures.back ∙ dropped-starting_from c.args.address ms c.partition_point-place.result point
