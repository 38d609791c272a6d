use Rattle.std.proofs.Common.{◌≡◌, ◌++◌, map, drop, codes}
use Rattle.framehop_recording.specs.Attributes.{attribute_view}
use Rattle.framehop_perf_stacks.specs.Choice.{chosen_among}
use Rattle.framehop_perf_stacks.specs.Names.{named_in}
use Rattle.framehop_perf_stacks.specs.Recording.{records_in}
use Rattle.framehop_perf_stacks.proofs.choice.chosen_records.Given as goal

abbrev pub invariant-loop-index : goal.invariant-loop-index
invariant-loop-index l =
    records_in l.chosen.items
    ++ chosen_among l.choice (map attribute_view l.events.attributes.items) (named_in l.names) (records_in (drop l.index l.records))
    ≡ chosen_among l.choice (map attribute_view l.events.attributes.items) (λ tid. codes "[unknown]") (records_in l.records)
