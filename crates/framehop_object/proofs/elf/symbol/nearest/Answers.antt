use Rattle.std.proofs.Common.{◌≡◌, true, false, nat_le, ◌-◌, sym, arith, rules}
use Rattle.std.specs.List.Sorted.{IsPartitionPoint}
use Rattle.std.proofs.lemmas.List.Sorted.{IsPartitionPoint-from_clause, IsPartitionedBy-leb}
use Rattle.framehop_object.specs.declared.elf.symbol.Symbol.{Symbol}
use Rattle.framehop_object.specs.Elf.Symbol.{start_of}
use Rattle.framehop_object.proofs.SymbolLemmas.{nearest_of-none, nearest_of-at}
use Rattle.framehop_object.proofs.elf.symbol.nearest.Goals as goal

pub returns-then-count-eq0 : goal.returns-then-count-eq0
returns-then-count-eq0 c =
    let symbols = c.args.symbols.now in
    let svma = c.args.svma in
    let count = c.partition_point-count.result in
    let split : IsPartitionPoint (λ (s : Symbol). nat_le (start_of s) svma ≡ true)
    (λ (s : Symbol). nat_le (start_of s) svma ≡ false) symbols count = IsPartitionPoint-from_clause
    (λ s. nat_le (start_of s) svma) symbols count c.partition_point-count.ensures.partitioned
    (IsPartitionedBy-leb start_of symbols svma c.requires) (λ a r q k. search rules) in
    let none = c.if-count-eq0.true in
    sym (nearest_of-none symbols svma (λ k d within. split.1 k d (omega (arith, none)) within))

pub returns : goal.returns
returns c =
    let symbols = c.args.symbols.now in
    let svma = c.args.svma in
    let count = c.partition_point-count.result in
    let split : IsPartitionPoint (λ (s : Symbol). nat_le (start_of s) svma ≡ true)
    (λ (s : Symbol). nat_le (start_of s) svma ≡ false) symbols count = IsPartitionPoint-from_clause
    (λ s. nat_le (start_of s) svma) symbols count c.partition_point-count.ensures.partitioned
    (IsPartitionedBy-leb start_of symbols svma c.requires) (λ a r q k. search rules) in
    let some = c.if-count-eq0.false in
    let bound = c.partition_point-count.ensures.bound in
    sym (nearest_of-at symbols svma (count - 1) (record { st_name = 0; st_value = 0; size = 0 }) c.requires
    (omega (arith, some, bound)) (λ k d below. split.0 k d (omega arith) (omega (arith, some, below)))
    (λ k d above within. split.1 k d (omega (arith, above)) within))
