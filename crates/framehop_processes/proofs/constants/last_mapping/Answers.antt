use Rattle.std.proofs.Common.{None, nat_le, sym, ◌∙◌, arith, rules}
use Rattle.std.proofs.lemmas.List.Sorted.{IsPartitionPoint-from_clause, IsPartitionedBy-leb}
use Rattle.framehop_processes.proofs.ConstantLemmas.{starts-rise, last-before, is-before}
use Rattle.framehop_processes.proofs.constants.last_mapping.Goals as goal

pub returns : goal.returns
returns c =
    let ms = c.args.mappings.now in
    let place = c.partition_point-place.result in
    let point = IsPartitionPoint-from_clause (λ m. nat_le m.start c.args.address) ms place c.partition_point-place.ensures.partitioned
    (IsPartitionedBy-leb (λ m. m.start) ms c.args.address (starts-rise 0 ms c.requires)) (λ a r f' k. search rules) in
    let last = last-before c.args.address ms place None c.partition_point-place.ensures.bound (λ k d below within. point.0 k d (omega arith) below)
    (λ k d from within. point.1 k d from within) in
    c.mapping_before.ensures ∙ sym (is-before ms place) ∙ sym last
