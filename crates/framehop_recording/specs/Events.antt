-- Which event a record belongs to, and when it was made: PERF_RECORD_SAMPLE and `struct sample_id` of perf_event.h.
-- That the id 0 means the first event: as perf has it (`perf_file_attr` of perf.data-file-format.txt).
use Rattle.std.specs.Prelude.{ℕ, ◌+◌, ◌*◌, List, [], ◌∷◌, ◌/◌, length, Bool, true, not, bit_and, ◌==◌, ◌&&◌, ◌||◌, Option, Some, None, option_and_then, slice_get, sum_by, Result, Ok, Err, nat_lt, if◌then◌else◌}
use Rattle.std.specs.List.{count_by, list_any, list_all, position_from}
use Rattle.framehop_bytes.specs.Bytes.{◌>>=◌, le8}
use Rattle.framehop_recording.specs.Numbers.{PERF_RECORD_SAMPLE, PERF_RECORD_USER_TYPE_START, PERF_SAMPLE_IP, PERF_SAMPLE_TID, PERF_SAMPLE_TIME, PERF_SAMPLE_ADDR, PERF_SAMPLE_ID, PERF_SAMPLE_STREAM_ID, PERF_SAMPLE_CPU, PERF_SAMPLE_PERIOD, PERF_SAMPLE_IDENTIFIER, NO_TIME}
use Rattle.framehop_recording.specs.Bytes.{word_at, word_from_end, offsets, has_bit}
use Rattle.framehop_recording.specs.Attributes.{AttributeView, attributes_of}
use Rattle.framehop_recording.specs.Records.{RecordView}
use Rattle.framehop_recording.specs.declared.error.RecordingError.{RecordingError}
use Rattle.framehop_recording.specs.declared.error.RecordingError.TheVariants.{MixedIds, SharedIds}
use Rattle.framehop_recording.specs.declared.header.Header.{Header}

-- The fields of eight bytes that a sample begins with, in their order: PERF_RECORD_SAMPLE of perf_event.h.
abbrev pub sample_fields : List ℕ
sample_fields =
    PERF_SAMPLE_IDENTIFIER ∷ PERF_SAMPLE_IP ∷ PERF_SAMPLE_TID ∷ PERF_SAMPLE_TIME ∷ PERF_SAMPLE_ADDR ∷ PERF_SAMPLE_ID
    ∷ PERF_SAMPLE_STREAM_ID ∷ PERF_SAMPLE_CPU ∷ PERF_SAMPLE_PERIOD ∷ []

-- Those that another record of the kernel ends with: `struct sample_id` of perf_event.h.
abbrev pub sample_id_fields : List ℕ
sample_id_fields =
    PERF_SAMPLE_TID ∷ PERF_SAMPLE_TIME ∷ PERF_SAMPLE_ID ∷ PERF_SAMPLE_STREAM_ID ∷ PERF_SAMPLE_CPU
    ∷ PERF_SAMPLE_IDENTIFIER ∷ []

-- those before a field, and those from it on
abbrev pub before : ℕ → List ℕ → List ℕ
before field [] = []
before field (f ∷ fields) = if f == field then [] else f ∷ before field fields

abbrev pub from : ℕ → List ℕ → List ℕ
from field [] = []
from field (f ∷ fields) = if f == field then f ∷ fields else from field fields

-- how many of these fields an event has
abbrev pub count_present : ℕ → List ℕ → ℕ
count_present sample_type fields = count_by (has_bit sample_type) fields

-- A field of eight bytes of a record of an event, that a sample has after some fields. Another record, of a kind below
-- PERF_RECORD_USER_TYPE_START, ends with others, of which it is the first, where `sample_id_all` says so.
unfoldable pub field_between : AttributeView → RecordView → List ℕ → List ℕ → Option ℕ
field_between a r earlier later =
    if r.kind == PERF_RECORD_SAMPLE then word_at r.body (8 * count_present a.sample_type earlier)
    else if a.sample_id_all && nat_lt r.kind PERF_RECORD_USER_TYPE_START
    then word_from_end r.body (count_present a.sample_type later) else None

-- a field by its bit
abbrev pub field_of : AttributeView → RecordView → ℕ → Option ℕ
field_of a r field = field_between a r (before field sample_fields) (from field sample_id_fields)

-- a time, unless it says that there is none
abbrev pub known_time : ℕ → Option ℕ
known_time time = if time == NO_TIME then None else Some time

-- when a record of an event was made
unfoldable pub time_field : AttributeView → RecordView → Option ℕ
time_field a r =
    if has_bit a.sample_type PERF_SAMPLE_TIME then option_and_then known_time (field_of a r PERF_SAMPLE_TIME) else None

-- the id of the event: PERF_SAMPLE_IDENTIFIER, or else PERF_SAMPLE_ID
unfoldable pub id_field : AttributeView → RecordView → Option ℕ
id_field a r =
    if has_bit a.sample_type PERF_SAMPLE_IDENTIFIER then field_of a r PERF_SAMPLE_IDENTIFIER
    else if has_bit a.sample_type PERF_SAMPLE_ID then field_of a r PERF_SAMPLE_ID else None

-- the fields that say where the id is, and which it is
unfoldable pub id_fields : AttributeView → ℕ
id_fields a =
    if has_bit a.sample_type PERF_SAMPLE_IDENTIFIER then PERF_SAMPLE_IDENTIFIER
    else bit_and a.sample_type (PERF_SAMPLE_IP + PERF_SAMPLE_TID + PERF_SAMPLE_TIME + PERF_SAMPLE_ADDR + PERF_SAMPLE_ID
    + PERF_SAMPLE_STREAM_ID + PERF_SAMPLE_CPU)

-- the records of two events have their ids at one place
unfoldable pub is_like : AttributeView → AttributeView → Bool
is_like a b = (id_fields a == id_fields b) && (if a.sample_id_all then b.sample_id_all else not b.sample_id_all)

-- Events can be told apart by ids where each has one, at the same place. A single event needs none.
unfoldable pub are_told_apart : List AttributeView → Bool
are_told_apart [] = true
are_told_apart (a ∷ others) =
    (length others == 0) || (has_bit (id_fields a) (PERF_SAMPLE_IDENTIFIER + PERF_SAMPLE_ID) && list_all (is_like a) others)

-- how many bytes the ids of events take
abbrev pub ids_size : List AttributeView → ℕ
ids_size attributes = sum_by (λ a. length a.ids) attributes

-- an id is among those of an event, of eight bytes each
abbrev pub has_id : ℕ → AttributeView → Bool
has_id id a = list_any (λ at. le8 a.ids at == id) (offsets 0 8 (length a.ids / 8))

-- the first event that has an id, by its place among all
abbrev pub event_with : List AttributeView → ℕ → Option ℕ
event_with attributes id = position_from (has_id id) 0 attributes

-- The event of a record. A single event has all records. Of several, the id says which, at the place where the first
-- has it. The id 0 is that of the records that perf made up, and they belong to the first.
unfoldable pub event_of : List AttributeView → RecordView → Option ℕ
event_of attributes r =
    option_and_then (λ first. if length attributes == 1 then Some 0
    else option_and_then (λ id. if id == 0 then Some 0 else event_with attributes id) (id_field first r))
    (slice_get attributes 0)

-- when a record was made, in nanoseconds
unfoldable pub time_of : List AttributeView → RecordView → Option ℕ
time_of attributes r =
    option_and_then (λ event. option_and_then (λ a. time_field a r) (slice_get attributes event)) (event_of attributes r)

-- The events of a recording, which must be told apart. Their ids must fit into the file beside one another.
unfoldable pub events_of : List ℕ → Header → Result (List AttributeView) RecordingError
events_of file header = do
  attributes ← attributes_of file header
  if not (are_told_apart attributes) then Err (MixedIds header.attributes.offset)
      else if nat_lt (length file) (ids_size attributes) then Err (SharedIds header.attributes.offset) else Ok attributes
