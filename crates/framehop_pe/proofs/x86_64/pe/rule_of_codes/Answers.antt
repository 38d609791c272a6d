use Rattle.std.proofs.Common.{map, ap, refl, rules}
use Rattle.std.proofs.lemmas.Iterator.{YieldsList-from_map}
use Rattle.framehop_core.specs.Laws.RuleOfOperations.{rule_of_operations-only}
use Rattle.framehop_pe.specs.Operations.{left_operations}
use Rattle.framehop_pe.specs.Offsets.{of_operation}
use Rattle.framehop_pe.specs.declared.unwind_info.chain.FramedOperation.{FramedOperation}
use Rattle.framehop_pe.proofs.Iterators.{YieldsList-from_first}
use Rattle.framehop_pe.proofs.x86_64.pe.rule_of_codes.Goals as goal

pub returns : goal.returns
returns g c =
    let rest = left_operations g.D.SectionBytes.contents in
    let source = YieldsList-from_first rest _ (rest c.args.operations) (ap rest c.map-offsets_and_pops.ensures.source) in
    let all = YieldsList-from_map _ (λ (framed : FramedOperation). of_operation framed.operation) source refl (λ x r q k. search rules) in
    let operations = map (λ (framed : FramedOperation). of_operation framed.operation) (rest c.args.operations) in
    rule_of_operations-only operations _ (c.for_sequence_of_offset_or_pop.ensures.rule operations all.runs)
