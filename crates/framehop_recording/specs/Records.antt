-- The records of a recording: each begins with `perf_event_header` of perf_event.h, its kind, its flags and its size,
-- which counts these eight bytes.
use Rattle.std.specs.Prelude.{ℕ, zero, suc, ◌+◌, ◌-◌, List, [], ◌∷◌, length, map, take, drop, Bool, ◌||◌, Option, Some, None, Result, Ok, Err, nat_lt, ◌==◌, if◌then◌else◌}
use Rattle.framehop_bytes.specs.Bytes.{◌>>=◌}
use Rattle.framehop_recording.specs.Numbers.{PERF_RECORD_AUXTRACE, PERF_RECORD_COMPRESSED, PERF_RECORD_COMPRESSED2}
use Rattle.framehop_recording.specs.Bytes.{u16_at, u32_at, u64_at, block_at}
use Rattle.framehop_recording.specs.declared.error.RecordingError.{RecordingError}
use Rattle.framehop_recording.specs.declared.error.RecordingError.TheVariants.{Eof, BadRecordSize, Compressed}
use Rattle.framehop_recording.specs.declared.header.Section.{Section}
use Rattle.framehop_recording.specs.declared.records.Record.{Record}
use Rattle.framehop_recording.specs.declared.records.Recorded.{Recorded}

-- a record by its values
pub record RecordView : Type 0 where
  pub offset : ℕ
  pub kind : ℕ
  pub misc : ℕ
  pub body : List ℕ

abbrev pub record_view : Record → RecordView
record_view r = record { offset = r.offset; kind = r.kind; misc = r.misc; body = r.body.now }

-- How many bytes after a record belong to it, although its size does not count them: those of PERF_RECORD_AUXTRACE have
-- their number as its first field.
unfoldable pub trailing_of : ℕ → ℕ → List ℕ → Result ℕ RecordingError
trailing_of offset kind whole = if kind == PERF_RECORD_AUXTRACE then (do
  trailing ← u64_at whole 8 (BadRecordSize offset)
  Ok trailing.0) else Ok 0

-- The record of a kind and a size at the front of bytes, which are at an offset of the file, and how many bytes it
-- takes. PERF_RECORD_COMPRESSED and PERF_RECORD_COMPRESSED2 are refused.
unfoldable pub sized_record_at : ℕ → List ℕ → ℕ → ℕ → ℕ → Result (RecordView × ℕ) RecordingError
sized_record_at offset bytes kind misc size = if nat_lt size 8 then Err (BadRecordSize offset) else (do
  whole ← block_at bytes 0 size (Eof offset)
  if kind == PERF_RECORD_COMPRESSED || kind == PERF_RECORD_COMPRESSED2 then Err (Compressed offset) else (do
    trailing ← trailing_of offset kind whole.0
    rest ← block_at bytes size trailing (Eof offset)
    Ok (record { offset = offset; kind = kind; misc = misc; body = drop 8 whole.0 }, rest.1)))

unfoldable pub record_at : ℕ → List ℕ → Result (RecordView × ℕ) RecordingError
record_at offset bytes = do
  kind ← u32_at bytes 0 (Eof offset)
  misc ← u16_at bytes 4 (Eof offset)
  size ← u16_at bytes 6 (Eof offset)
  sized_record_at offset bytes kind.0 misc.0 size.0

-- records up to the first that is refused, and why it is
pub record Run : Type 0 where
  pub records : List RecordView
  pub refusal : Option RecordingError

-- a record that was read, and those after it
abbrev pub run_after : Result (RecordView × ℕ) RecordingError → (ℕ → Run) → Run
run_after (Err error) next = record { records = []; refusal = Some error }
run_after (Ok read) next = let rest = next read.1 in record { records = read.0 ∷ rest.records; refusal = rest.refusal }

-- where no byte is left, and records are cut off, the file ends before the next
abbrev pub refusal_at_end : Bool → ℕ → Option RecordingError
refusal_at_end cut offset = if cut then Some (Eof offset) else None

-- The records in bytes, which are at an offset of the file, and of which some may be cut off. `skipped` counts the bytes
-- at their front that belong to a record before.
unfoldable pub run_in : Bool → ℕ → ℕ → List ℕ → Run
run_in cut skipped offset [] = record { records = []; refusal = refusal_at_end cut offset }
run_in cut (suc skipped) offset (byte ∷ bytes) = run_in cut skipped (offset + 1) bytes
run_in cut zero offset (byte ∷ bytes) =
    run_after (record_at offset (byte ∷ bytes)) (λ size. run_in cut (size - 1) (offset + 1) bytes)

-- the records of a section of the file
abbrev pub run_of : List ℕ → Section → Run
run_of file section =
    if nat_lt (length file) section.offset then record { records = []; refusal = Some (Eof section.offset) }
    else
    let bytes = take section.size (drop section.offset file) in
    run_in (nat_lt (length bytes) section.size) 0 section.offset bytes

-- what was read, as such a run
abbrev pub run_view : Recorded → Run
run_view read = record { records = map record_view read.records.items; refusal = read.refusal }
