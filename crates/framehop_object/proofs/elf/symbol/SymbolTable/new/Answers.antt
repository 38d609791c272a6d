use Rattle.std.proofs.Common.{◌≡◌, ℕ, Bor, rules}
use Rattle.std.proofs.lemmas.List.Sorted.{IsNonDecreasingBy-from_sort_by_key, answers_always}
use Rattle.framehop_object.specs.declared.elf.symbol.Symbol.{Symbol}
use Rattle.framehop_object.specs.Elf.Symbol.{start_of}
use Rattle.framehop_object.proofs.elf.symbol.SymbolTable.new.Goals as goal

pub invariant_of-result : goal.invariant_of-result
invariant_of-result c =
    IsNonDecreasingBy-from_sort_by_key start_of c.sort_by_key.new.self.items c.in_ok-sort_by_key.ensures.sorted (λ a r q k. search rules)

pub returns-clause-order : goal.returns-clause-order
returns-clause-order c =
    c.in_ok-sort_by_key.ensures.stable start_of (answers_always _ (λ (a : Bor Symbol × Unit {0}) (r : ℕ). r ≡ start_of a.0.now) _ (λ f a r q k. search rules))
