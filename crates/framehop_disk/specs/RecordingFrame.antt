-- What is before and after the records of a recording (Linux, perf.data-file-format.txt; include/uapi/linux/perf_event.h,
-- `perf_event_header`).
use Rattle.std.specs.Prelude.{ℕ, zero, suc, ◌+◌, ◌-◌, ◌^◌, Bool, not, ◌&&◌, nat_le, nat_lt, List, length, min, count_ones, Option, Some, None, option_and_then, if◌then◌else◌}
use Rattle.framehop_bytes.specs.Bytes.{le2, le8}
use Rattle.framehop_recording.specs.declared.error.RecordingError.{RecordingError}
use Rattle.framehop_recording.specs.declared.error.RecordingError.TheVariants.{Eof}
use Rattle.framehop_recording.specs.declared.header.Header.{Header}
use Rattle.framehop_recording.specs.declared.header.Section.{Section}
use Rattle.framehop_disk.specs.ObjectParts.{written}
use Rattle.framehop_disk.specs.Wanted.{sum_64}

-- a regular file of 1 MiB or more is
abbrev pub is_read_in_parts : Bool → ℕ → Bool
is_read_in_parts is_regular size = is_regular && nat_le (2 ^ 20) size

-- What is after the records of a file of a size. `None` where the file ends before its records do, or there are more than 64 MiB
-- before or after them.
abbrev pub after_records : Section → ℕ → Option Section
after_records records size =
    if nat_le (records.offset + records.size) size && nat_le (size - (records.offset + records.size)) (2 ^ 26)
    && nat_le records.offset (2 ^ 26)
    then Some (record { offset = records.offset + records.size; size = size - (records.offset + records.size) }) else None

-- ---- a recording without its records

-- where a section lies is told in 16 bytes, its offset in the first 8. The section comes after the records; without them it is so
-- many bytes before that.
abbrev pub section_moved : Section → ℕ → List ℕ → Option (List ℕ)
section_moved records at bytes =
    if nat_le (at + 16) (length bytes) && nat_le (sum_64 records.offset records.size) (le8 bytes at)
    then Some (written bytes at (le8 bytes at - records.size)) else None

-- the same of so many sections, which are told of one after another
abbrev pub sections_moved : Section → ℕ → ℕ → List ℕ → Option (List ℕ)
sections_moved records at zero bytes = Some bytes
sections_moved records at (suc count) bytes =
    option_and_then (λ moved. sections_moved records (sum_64 at 16) count moved) (section_moved records at bytes)

-- What is before and after the records, as a recording without them: after the records is told where the section of each feature
-- lies, of which the header has a bit.
abbrev pub frame_of : Header → List ℕ → Option (List ℕ)
frame_of header bytes = sections_moved header.records header.records.offset (count_ones header.features) bytes

-- ---- pieces of records

-- of the records that are left 1 MiB is read at a time
abbrev pub piece_of : Section → Section
piece_of left = record left { size = min left.size (2 ^ 20) }

abbrev pub left_after : Section → ℕ → Section
left_after left taken = record { offset = sum_64 left.offset taken; size = left.size - taken }

-- The bytes of a piece that its whole records take. The next piece begins with the record that is cut off by the end of this one,
-- unless this is the last; one that is cut off at the front of a piece does not end in it. Any other refusal is one.
abbrev pub whole_records : ℕ → Bool → Option RecordingError → Option ℕ
whole_records size is_last None = Some size
whole_records size is_last (Some (Eof offset)) = if not is_last && nat_lt 0 offset then Some offset else None
whole_records size is_last (Some refusal) = None

-- how many bytes the body of a record has: the size in its header counts these eight bytes, too
abbrev pub body_size : List ℕ → ℕ
body_size header = le2 header 6 - 8
