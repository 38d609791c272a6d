use Rattle.std.proofs.Common.{map, ap, refl, rules}
use Rattle.std.proofs.lemmas.Iterator.{YieldsList-from_map}
use Rattle.framehop_core.specs.Laws.RuleOfOperations.{rule_of_operations-only}
use Rattle.framehop_pe.specs.Instructions.{left_instructions}
use Rattle.framehop_pe.specs.Offsets.{of_instruction}
use Rattle.framehop_pe.proofs.Iterators.{YieldsList-from_first}
use Rattle.framehop_pe.proofs.x86_64.pe.rule_of_epilog.Goals as goal

pub returns : goal.returns
returns c =
    let source = YieldsList-from_first left_instructions _ (left_instructions c.args.instructions) (ap left_instructions c.map-offsets_and_pops.ensures.source) in
    let all = YieldsList-from_map _ of_instruction source refl (λ x r q k. search rules) in
    let operations = map of_instruction (left_instructions c.args.instructions) in
    rule_of_operations-only operations _ (c.for_sequence_of_offset_or_pop.ensures.rule operations all.runs)
