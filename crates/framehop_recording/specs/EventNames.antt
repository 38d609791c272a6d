-- The names of events: the section of HEADER_EVENT_DESC of perf.data-file-format.txt.
use Rattle.std.specs.Prelude.{ℕ, zero, suc, ◌+◌, ◌*◌, ◌^◌, List, [], ◌∷◌, Option, Some, None, Result, Ok}
use Rattle.framehop_bytes.specs.Bytes.{◌>>=◌}
use Rattle.framehop_bytes.specs.String.{before_nul}
use Rattle.framehop_recording.specs.Bytes.{Reading, u32_at, block_at}
use Rattle.framehop_recording.specs.Header.{feature_section}
use Rattle.framehop_recording.specs.Numbers.{HEADER_EVENT_DESC}
use Rattle.framehop_recording.specs.declared.error.RecordingError.{RecordingError}
use Rattle.framehop_recording.specs.declared.error.RecordingError.TheVariants.{Eof}
use Rattle.framehop_recording.specs.declared.header.Header.{Header}
use Rattle.framehop_recording.specs.declared.header.Section.{Section}

-- The name of an event at an offset, by the size of an attribute: the attribute, how many ids there are, how long the name
-- is with the 0 after it, the name, and the ids. The offset after them is that of the next event.
unfoldable pub event_name_at : List ℕ → ℕ → ℕ → RecordingError → Reading (List ℕ)
event_name_at bytes size at short = do
  ids ← u32_at bytes (at + size) short
  length ← u32_at bytes ids.1 short
  name ← block_at bytes length.1 length.0 short
  after ← block_at bytes name.1 (8 * ids.0) short
  Ok (before_nul name.0, after.1)

-- those of so many events, one after another
unfoldable pub event_names_from : List ℕ → ℕ → RecordingError → ℕ → ℕ → Result (List (List ℕ)) RecordingError
event_names_from bytes size short at zero = Ok []
event_names_from bytes size short at (suc count) = do
  name ← event_name_at bytes size at short
  names ← event_names_from bytes size short name.1 count
  Ok (name.0 ∷ names)

-- how many events there are, the size of an attribute, and the events
unfoldable pub event_names_in : List ℕ → RecordingError → Result (List (List ℕ)) RecordingError
event_names_in bytes short = do
  count ← u32_at bytes 0 short
  size ← u32_at bytes count.1 short
  event_names_from bytes size.0 short size.1 count.0

-- those of a section, none where there is no section
unfoldable pub event_names_at : List ℕ → Option Section → Result (List (List ℕ)) RecordingError
event_names_at file None = Ok []
event_names_at file (Some section) = do
  bytes ← block_at file section.offset section.size (Eof section.offset)
  event_names_in bytes.0 (Eof section.offset)

-- those of a file
unfoldable pub event_names_of : List ℕ → Header → Result (List (List ℕ)) RecordingError
event_names_of file header = do
  section ← feature_section file header (2 ^ HEADER_EVENT_DESC)
  event_names_at file section
