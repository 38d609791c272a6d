use Rattle.std.proofs.Common.{◌≡◌, true, false, nat_le, [], ◌-◌, sym, arith, rules}
use Rattle.std.specs.List.Sorted.{IsPartitionPoint}
use Rattle.std.proofs.lemmas.List.Sorted.{IsPartitionPoint-from_clause, IsPartitionedBy-leb}
use Rattle.framehop_check.specs.declared.sections.CodeSection.{CodeSection}
use Rattle.framehop_check.specs.Sections.{address_of}
use Rattle.framehop_check.proofs.SectionLemmas.{nearest_of-none, nearest_of-at}
use Rattle.framehop_check.proofs.sections.nearest.Goals as goal

pub returns-then-count-eq0 : goal.returns-then-count-eq0
returns-then-count-eq0 c =
    let sections = c.args.sections.now in
    let address = c.args.address in
    let count = c.partition_point-count.result in
    let split : IsPartitionPoint (λ (s : CodeSection). nat_le (address_of s) address ≡ true)
    (λ (s : CodeSection). nat_le (address_of s) address ≡ false) sections count = IsPartitionPoint-from_clause
    (λ s. nat_le (address_of s) address) sections count c.partition_point-count.ensures.partitioned
    (IsPartitionedBy-leb address_of sections address c.requires) (λ a r q k. search rules) in
    let none = c.if-count-eq0.true in
    sym (nearest_of-none sections address (λ k d within. split.1 k d (omega (arith, none)) within))

pub returns : goal.returns
returns c =
    let sections = c.args.sections.now in
    let address = c.args.address in
    let count = c.partition_point-count.result in
    let split : IsPartitionPoint (λ (s : CodeSection). nat_le (address_of s) address ≡ true)
    (λ (s : CodeSection). nat_le (address_of s) address ≡ false) sections count = IsPartitionPoint-from_clause
    (λ s. nat_le (address_of s) address) sections count c.partition_point-count.ensures.partitioned
    (IsPartitionedBy-leb address_of sections address c.requires) (λ a r q k. search rules) in
    let some = c.if-count-eq0.false in
    let bound = c.partition_point-count.ensures.bound in
    sym (nearest_of-at sections address (count - 1) (record { address = 0; contents = record { ref_ptr = (0, 0); now = [] } }) c.requires
    (omega (arith, some, bound)) (λ k d below. split.0 k d (omega arith) (omega (arith, some, below)))
    (λ k d above within. split.1 k d (omega (arith, above)) within))
