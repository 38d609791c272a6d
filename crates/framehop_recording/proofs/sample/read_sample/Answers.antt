use Rattle.framehop_recording.specs.Attributes.{attribute_view}
use Rattle.framehop_recording.specs.Records.{record_view}
use Rattle.framehop_recording.specs.Sample.{sample_view}
use Rattle.framehop_recording.proofs.TimeLemmas.{sample-time}
use Rattle.framehop_recording.proofs.sample.read_sample.Goals as goal

pub returns-clause-timed : goal.returns-clause-timed
returns-clause-timed c =
    sample-time (attribute_view c.args.attribute.now) (record_view c.args.record) (sample_view c.in_ok-sample.sample) c.in_ok-sample.ensures.exact
