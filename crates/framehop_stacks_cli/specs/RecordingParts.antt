-- What is kept of the records of a recording that is read in parts.
use Rattle.std.specs.Prelude.{ℕ, ◌+◌, List, length, map}
use Rattle.std.specs.Io.Iter.{u64_saturate}
use Rattle.framehop_recording.specs.Attributes.{AttributeView}
use Rattle.framehop_recording.specs.Records.{RecordView}
use Rattle.framehop_recording.specs.declared.header.Section.{Section}
use Rattle.framehop_perf_stacks.specs.Kept.{TimedView, kept_of}

-- all bytes of a piece
abbrev pub whole : List ℕ → Section
whole piece = record { offset = 0; size = length piece }

-- what is kept of the records of a piece, which is at an offset of the file
abbrev pub moved_by : ℕ → RecordView → RecordView
moved_by at r = record r { offset = u64_saturate (at + r.offset) }

abbrev pub kept_from : List AttributeView → ℕ → List RecordView → List TimedView
kept_from attributes at records = map (λ r. kept_of attributes (moved_by at r)) records
