use Rattle.std.proofs.Common.{◌≡◌, ◌∙◌, ap, sym, length, take, drop, ◌++◌, arith, rules}
use Rattle.std.specs.List.Sorted.{IsNonDecreasingBy}
use Rattle.std.proofs.lemmas.List.Sorted.{IsNonDecreasingBy-from_sort_by_key, list_any-IsPermutation}
use Rattle.std.proofs.Math.Seq.{take-append_seam}
use Rattle.framehop_memory.specs.Stairs.{has_run, have_run}
use Rattle.framehop_memory.proofs.StairLemmas.{start_of}
use Rattle.framehop_memory.proofs.stairs.Stairs.new.Goals as goal

pub raise-requires : goal.raise-requires
raise-requires c =
    let sorted : IsNonDecreasingBy start_of c.sort_by_key.new.self.items =
    IsNonDecreasingBy-from_sort_by_key start_of c.sort_by_key.new.self.items c.in_ok-sort_by_key.ensures.sorted (λ a r q k. search rules) in
    rw c.deref_mut.ensures.value sorted

pub returns : goal.returns
returns c = λ address size.
    let all-runs : c.sort_by_key.new.self.len ≡ length c.raise.new.runs = omega arith in
    let all : take c.sort_by_key.new.self.len (c.raise.new.runs ++ drop (length c.raise.new.runs) c.sort_by_key.new.self.items) ≡ c.raise.new.runs = rw all-runs (take-append_seam c.raise.new.runs _) in
    rw all (c.raise.ensures.same address size
    ∙ ap (λ runs. have_run runs address size) c.deref_mut.ensures.value
    ∙ sym (list_any-IsPermutation (has_run address size) c.args.runs.items c.sort_by_key.new.self.items c.in_ok-sort_by_key.ensures.permutation))
