use Rattle.std.proofs.Common.{sym, arith, to_z, of_z}
use mir.Syntax.{w128}
use Rattle.std.proofs.lemmas.Int.{ints}
use Rattle.framehop_analysis.specs.Aarch64.Detector.{places_of}
use Rattle.framehop_analysis.proofs.Aarch64Ends.{places-load}
use Rattle.framehop_analysis.proofs.aarch64.instruction_analysis.epilogue.EpilogueDetectorAarch64.step_instruction.Goals as goal

pub returns-clause-places : goal.returns-clause-places
returns-clause-places c =
    let low = c.requires.low.le in let high = c.requires.high.le in
    let by = c.pair_offset.ensures.value in let by_low = c.pair_offset.ensures.low in let by_high = c.pair_offset.ensures.high in
    places-load (places_of c.args.self) c.args.word _ _ (to_z w128 (of_z w128 c.sp_after_load.result)) _ _ _
    (to_z w128 (of_z w128 c.place_of_load-place.result)) _ _ _ (sym c.if-not-is_load.ensures)
    c.sp_after_load.ensures.value (omega (arith, ints)) (omega (arith, ints)) (omega (arith, ints))
    c.place_of_load-place.ensures.value (omega (arith, ints)) (omega (arith, ints)) (omega (arith, ints))
    c.place_after_load.ensures c.place_after_load-2.ensures
