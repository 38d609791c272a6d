use Rattle.std.proofs.Common.{◌==◌, not, bit_and, ap, sym, ◌∙◌}
use Rattle.framehop_recording.proofs.EventLemmas.{not-zero, told-apart}
use Rattle.framehop_recording.proofs.events.are_told_apart.Goals as goal

pub returns : goal.returns
returns c =
    told-apart c.args.attributes.now c.in-Some.first.now c.in-Some.others.now c.are_like.result c.in-Some.ensures.cases.0 (sym c.if-is_empty.ensures)
    (ap (λ fields. not (bit_and fields 0x10040 == 0)) (sym c.id_fields.ensures) ∙ not-zero (bit_and c.id_fields.result 0x10040) c.if-id_fields-eq0.false) c.are_like.ensures
