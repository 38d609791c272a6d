-- Records in the order of their times. Those of several processors are not in order in the file.
use Rattle.std.specs.Prelude.{List, unwrap_or}
use Rattle.std.specs.Ordering.{nat_cmp}
use Rattle.std.specs.List.Sorted.{IsPermutation, IsSortedByKey, IsStableByKey}
use Rattle.framehop_recording.specs.Attributes.{AttributeView}
use Rattle.framehop_recording.specs.Records.{record_view}
use Rattle.framehop_recording.specs.Events.{time_of}
use Rattle.framehop_recording.specs.declared.records.Record.{Record}
use Rattle.framehop_recording.specs.declared.order.TimedRecord.{TimedRecord}

-- a record with its time, 0 where it has none
abbrev pub timed : List AttributeView → Record → TimedRecord
timed attributes r = record { time = unwrap_or (time_of attributes (record_view r)) 0; «record» = r }

-- The second list has the records of the first in the order of their times. Records of the same time keep their order,
-- and so do those that have none, which come first.
abbrev pub IsInOrderOfTime : List TimedRecord → List TimedRecord → Type 0
IsInOrderOfTime file ordered =
    IsPermutation file ordered × IsSortedByKey (λ r. r.time) nat_cmp ordered × IsStableByKey (λ r. r.time) nat_cmp file ordered
