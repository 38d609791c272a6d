use Rattle.std.proofs.Common.{◌≡◌, ◌<◌, ◌∙◌, ap, sym, length, arith}
use Rattle.framehop_memory.specs.Stairs.{have_run}
use Rattle.std.specs.List.{list_any}
use Rattle.framehop_memory.specs.SizedRange.{has_sized}
use Rattle.framehop_memory.proofs.RangeTreeLemmas.{have-runs-of}
use Rattle.framehop_memory.proofs.range_tree.RangeTree.+new.Goals as goal

pub invariant_of-result-2 : goal.invariant_of-result-2
invariant_of-result-2 t c =
    let front = c.split_at.result.0.now in
    let back = c.split_at.result.1.now in
    let first : c.in_ok-first.first.value ≡ front = c.in_ok-first.ensures.ok ∙ c.in_ok-new.ensures in
    let second : c.in_ok-second.second.value ≡ back = c.in_ok-second.ensures.ok ∙ c.in_ok-new-2.ensures in
    let many = c.if-ranges-le-FEW.false in
    let fronts : 0 < length front = omega (arith, many, c.split_at.ensures.front_len) in
    let backs : 0 < length back = omega (arith, many, c.split_at.ensures.back_len) in (
      rw first fronts,
      rw second backs,
      λ address size.
          c.in_ok-stairs.ensures address size
          ∙ ap (λ runs. have_run runs address size) c.in_ok-runs_of.ensures
          ∙ have-runs-of address size front
          ∙ ap (list_any (has_sized address size)) (sym first),
    )
