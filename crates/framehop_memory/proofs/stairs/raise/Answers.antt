use Rattle.std.proofs.Common.{◌<◌, ◌∙◌, length, arith}
use Rattle.framehop_memory.specs.declared.stairs.Run.{Run}
use Rattle.framehop_memory.proofs.StairLemmas.{sorted-set, rising-set, have-set}
use Rattle.framehop_memory.proofs.stairs.raise.Goals as goal

pub loop-index-preserved : goal.loop-index-preserved
loop-index-preserved c =
    let runs = c.loop-index.runs in
    let index = c.loop-index.index in
    let raised = c.raised.result in
    let none : Run = record { start = 0; size = 0 } in
    let one = c.loop-index.auto.index in
    let within : index < length runs = omega arith in
    let kept = c.loop-index.invariant in
    record {
      sorted = sorted-set runs index raised none one within kept.sorted c.raised.ensures.start;
      rising = rising-set runs index raised none one within kept.sorted c.raised.ensures.start kept.rising c.raised.ensures.further;
      same = λ address size. have-set runs index raised none one within kept.sorted c.raised.ensures.start address size c.raised.ensures.longer c.raised.ensures.one ∙ kept.same address size;
    }
