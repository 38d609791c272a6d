use Rattle.std.proofs.Common.{◌≡◌, ◌+◌, ◌<◌, [], map, drop, length, codes, arith, rules}
use Rattle.std.proofs.lemmas.List.{at_drop_more, at_drop_all}
use Rattle.framehop_recording.specs.Attributes.{attribute_view}
use Rattle.framehop_perf_stacks.specs.Choice.{chosen_among}
use Rattle.framehop_perf_stacks.specs.Names.{named_in}
use Rattle.framehop_perf_stacks.specs.Recording.{records_in}
use Rattle.framehop_perf_stacks.proofs.ChoiceLemmas.{chosen-same, chosen-next, chosen-whole}
use Rattle.framehop_perf_stacks.proofs.choice.chosen_records.Goals as goal

pub loop-index-init : goal.loop-index-init
loop-index-init c =
    let attributes = map attribute_view c.args.events.now.attributes.items in
    let none : c.new-chosen.result.items ≡ [] = search rules in
    rw none (chosen-same c.args.choice.now attributes (named_in c.new-names.result) (λ tid. codes "[unknown]") c.new-names.ensures
    (records_in c.args.records.now))

pub loop-index-preserved : goal.loop-index-preserved
loop-index-preserved c =
    let l = c.loop-index in
    let records = c.args.records.now in
    let attributes = map attribute_view c.args.events.now.attributes.items in
    let below : l.index < length records = search rules in
    chosen-next c.args.choice.now attributes
    (chosen_among c.args.choice.now attributes (λ tid. codes "[unknown]") (records_in records))
    (named_in l.names) (named_in c.note_names.new.names) _ l.chosen.items c.push_if.new.chosen.items
    (records_in (drop l.index records)) (records_in (drop (l.index + 1) records)) c.has_record-is_chosen.result
    l.invariant (at_drop_more records_in records l.index _ below) c.has_record-is_chosen.ensures c.in_ok-push_if.ensures.pushed
    c.in_ok-note_names.ensures.named

pub returns-clause-chosen : goal.returns-clause-chosen
returns-clause-chosen c =
    let l = c.loop-index in
    let records = c.args.records.now in
    let attributes = map attribute_view c.args.events.now.attributes.items in
    chosen-whole c.args.choice.now attributes
    (chosen_among c.args.choice.now attributes (λ tid. codes "[unknown]") (records_in records))
    (named_in l.names) l.chosen.items (records_in (drop l.index records)) l.invariant
    (at_drop_all records_in records l.index (omega arith))
