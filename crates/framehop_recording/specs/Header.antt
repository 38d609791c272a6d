-- The header of a recording: `perf_header` and `perf_file_section` of perf.data-file-format.txt.
-- (Linux, tools/perf/util/header.c, `perf_file_header__read`.)
use Rattle.std.specs.Prelude.{ℕ, ◌+◌, ◌-◌, ◌*◌, List, bit_and, count_ones, Option, Some, None, Result, Ok, Err, ◌==◌, if◌then◌else◌}
use Rattle.framehop_bytes.specs.Bytes.{◌>>=◌}
use Rattle.framehop_recording.specs.Fields.{HEADER_MAGIC, HEADER_SIZE, HEADER_ATTR_SIZE, HEADER_ATTRS, HEADER_DATA, HEADER_EVENT_TYPES, HEADER_ADDS_FEATURES}
use Rattle.framehop_recording.specs.Bytes.{Reading, u64_at, block_at, has_bit}
use Rattle.framehop_recording.specs.declared.error.RecordingError.{RecordingError}
use Rattle.framehop_recording.specs.declared.error.RecordingError.TheVariants.{Eof, NotARecording, BigEndian, Piped, BadHeaderSize, Unfinished}
use Rattle.framehop_recording.specs.declared.header.Header.{Header}
use Rattle.framehop_recording.specs.declared.header.Section.{Section}

-- a number of the file itself
abbrev pub number_at : List ℕ → ℕ → Reading ℕ
number_at file at = u64_at file at (Eof at)

-- where a section lies: its offset and its size
unfoldable pub section_at : List ℕ → ℕ → Reading Section
section_at file at = do
  offset ← number_at file at
  size ← number_at file offset.1
  Ok (record { offset = offset.0; size = size.0 }, size.1)

-- Which features have a section, by the size of the header. The old format, of 72 bytes, has no features; the header that
-- `perf record` writes to a pipe has 16 bytes.
unfoldable pub features_at : List ℕ → ℕ → Result ℕ RecordingError
features_at file size =
    if size == 16 then Err (Piped HEADER_SIZE)
    else if size == 72 then Ok 0
    else if size == 104 then (do
      features ← number_at file HEADER_ADDS_FEATURES
      Ok features.0) else Err (BadHeaderSize HEADER_SIZE)

-- The fields from `size` on. The size of the records is written last: where `perf record` was ended before, it is 0.
unfoldable pub fields_at : List ℕ → Result Header RecordingError
fields_at file = do
  size ← number_at file HEADER_SIZE
  features ← features_at file size.0
  attribute_size ← number_at file HEADER_ATTR_SIZE
  attributes ← section_at file HEADER_ATTRS
  records ← section_at file HEADER_DATA
  event_types ← section_at file HEADER_EVENT_TYPES
  if records.0.size == 0 then Err (Unfinished 48) else Ok (record { attribute_size = attribute_size.0; attributes = attributes.0; records = records.0; features = features })

-- "PERFILE2", which reads backwards on a machine of the other byte order
unfoldable pub header_at : List ℕ → Result Header RecordingError
header_at file = do
  magic ← number_at file HEADER_MAGIC
  if magic.0 == 0x32454c4946524550 then fields_at file
      else if magic.0 == 0x50455246494c4532 then Err (BigEndian 0) else Err (NotARecording 0)

-- Where the section of a feature lies, by its bit. After the records is where the section of each feature lies that the
-- file has, in the order of their numbers.
unfoldable pub feature_section : List ℕ → Header → ℕ → Result (Option Section) RecordingError
feature_section file header bit = if has_bit header.features bit then (do
  records ← block_at file header.records.offset header.records.size (Eof header.records.offset)
  section ← section_at file (records.1 + 16 * count_ones (bit_and header.features (bit - 1)))
  Ok (Some section.0)) else Ok None
