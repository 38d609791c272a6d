use Rattle.std.proofs.Common.{◌≡◌, ◌++◌, drop, map}
use Rattle.framehop_recording.specs.Attributes.{attribute_view}
use Rattle.framehop_recording.specs.Records.{record_view}
use Rattle.framehop_stacks_cli.specs.RecordingParts.{kept_from}
use Rattle.framehop_stacks_cli.proofs.recording_parts.keep_each.Given as goal

-- what is kept so far, and of the records that are left, is all
abbrev pub invariant-loop-record : goal.invariant-loop-record
invariant-loop-record l =
    l.kept ++ kept_from (map attribute_view l.events.attributes.items) l.at (map record_view (drop l.record-index l.records))
    ≡ l.fn.kept ++ kept_from (map attribute_view l.events.attributes.items) l.at (map record_view l.records)
