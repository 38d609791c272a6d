use Rattle.std.proofs.Common.{◌≡◌, ◌∙◌, ap, sym, true, false, Some, arith}
use Rattle.framehop.specs.Modules.{starts_by}
use Rattle.framehop_explain.proofs.UncoveredLemmas.{last-more, last-kept}
use Rattle.framehop_explain.proofs.uncovered.last_module_by.Goals.{then-avma_range-address, else-avma_range-address}
use Rattle.framehop_explain.proofs.uncovered.last_module_by.Goals as goal

pub loop-loaded-preserved : goal.loop-loaded-preserved
loop-loaded-preserved g c =
    elim c.if-avma_range-address.branch [
      | then-avma_range-address w ↦
          let starts : starts_by c.args.address c.loaded-item.result ≡ true = grind (arith, w.if-avma_range-address.true, c.avma_range.ensures.start) in
          rw w.last-is (rw (last-more c.args.address c.args.modules.now c.loop-loaded.loaded-index c.loaded-item.result c.loop-loaded-test.true (rw (sym c.loaded-item.is) starts)) (ap Some c.loaded-item.is))
      | else-avma_range-address w ↦
          let starts : starts_by c.args.address c.loaded-item.result ≡ false = grind (arith, w.if-avma_range-address.false, c.avma_range.ensures.start) in
          rw w.last-is (c.loop-loaded.invariant ∙ sym (last-kept c.args.address c.args.modules.now c.loop-loaded.loaded-index c.loaded-item.result c.loop-loaded-test.true (rw (sym c.loaded-item.is) starts)))
    ]
