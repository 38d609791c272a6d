use Rattle.std.proofs.Common.{◌≡◌, map, true, codes, refl, sym, rules}
use Rattle.framehop_recording.specs.Attributes.{attribute_view}
use Rattle.framehop_perf_stacks.specs.Choice.{is_of_all}
use Rattle.framehop_perf_stacks.specs.Recording.{records_in}
use Rattle.framehop_perf_stacks.proofs.ChoiceLemmas.{chosen-all}
use Rattle.framehop_perf_stacks.proofs.choice.choose.Goals as goal

pub returns-then-is_of_all-clause-chosen : goal.returns-then-is_of_all-clause-chosen
returns-then-is_of_all-clause-chosen c =
    let all : is_of_all c.args.choice.now ≡ true = search rules in
    record {
      records = sym (chosen-all c.args.choice.now (map attribute_view c.args.recording.events.attributes.items) all (λ tid. codes "[unknown]")
          (records_in c.args.recording.records.items));
      events = refl;
      build_ids = refl;
      refusal = refl;
    }
