-- Which memory of a process could be executed: MD_LINUX_MAPS, the text of /proc/PID/maps (proc(5)), which Breakpad and
-- LLDB copy.
use Rattle.std.specs.Prelude.{ℕ, ◌+◌, ◌-◌, List, [], length, drop, Bool, ◌&&◌, ◌||◌, ◌==◌, nat_lt, nat_le, slice_index, Option, Some, None, option_and_then, option_map, Result, Ok, if◌then◌else◌}
use Rattle.std.specs.Char.{is_digit}
use Rattle.std.specs.List.{before_first, filter_map, list_all, slice_split}
use Rattle.std.specs.Str.Parse.{digits_value}
use Rattle.framehop_bytes.specs.Bytes.{◌>>=◌}
use Rattle.framehop_memory.specs.declared.segment.Segment.{Segment}
use Rattle.framehop_dump_files.specs.Minidump.Numbers.{MD_LINUX_MAPS}
use Rattle.framehop_dump_files.specs.Minidump.Location.{located}
use Rattle.framehop_dump_files.specs.Minidump.Stream.{stream_of}
use Rattle.framehop_dump_files.specs.declared.minidump.error.MinidumpError.{MinidumpError}
use Rattle.framehop_dump_files.specs.declared.minidump.stream.Stream.{Stream}

-- the bytes before the first of a code, or all where there is none
abbrev pub before : ℕ → List ℕ → List ℕ
before code bytes = before_first (λ byte. byte == code) bytes

-- the bytes after it
abbrev pub after : ℕ → List ℕ → List ℕ
after code bytes = drop (length (before code bytes) + 1) bytes

-- the number that one to sixteen hexadecimal digits write
abbrev pub address_of : List ℕ → Option ℕ
address_of digits =
    if nat_lt 0 (length digits) && nat_le (length digits) 16 && list_all (λ digit. is_digit digit 16) digits
    then Some (digits_value 16 digits) else None

-- a letter, or '-' in its place
abbrev pub is_letter : ℕ → ℕ → Bool
is_letter letter byte = byte == letter || byte == 45

-- whether the letters "rwx" let memory be executed, where "-" is in the place of those that are not granted; "p" or "s"
-- follows
abbrev pub is_code_by : List ℕ → Option Bool
is_code_by letters =
    if nat_le 4 (length letters)
    && is_letter 114 (slice_index letters 0) && is_letter 119 (slice_index letters 1) && is_letter 120 (slice_index letters 2)
    && (slice_index letters 3 == 112 || slice_index letters 3 == 115)
    then Some (slice_index letters 2 == 120) else None

-- memory from an address to another, as a segment without bytes
abbrev pub region : ℕ → ℕ → Bool → Segment
region start end is_code =
    record { address = start; size = end - start; offset = 0; file_size = 0; is_code = is_code }

-- START-END LETTERS, and what follows: the digits of START are before the first '-', those of END before the next ' '
unfoldable pub region_in : List ℕ → Option Segment
region_in line =
    option_and_then (λ start. option_and_then (λ end.
    option_map (region start end) (is_code_by (after 32 (after 45 line))))
    (address_of (before 32 (after 45 line)))) (address_of (before 45 line))

-- the regions of a text: those of its lines that are of this form
unfoldable pub regions_in : List ℕ → List Segment
regions_in text = filter_map region_in (slice_split (λ byte. byte == 10) text)

-- the text of the first stream of the type, none where there is no such stream
abbrev pub text_found : List ℕ → Option Stream → Result (List ℕ) MinidumpError
text_found file None = Ok []
text_found file (Some stream) = located file stream.location

unfoldable pub text_of : List ℕ → List Stream → Result (List ℕ) MinidumpError
text_of file streams = text_found file (stream_of streams MD_LINUX_MAPS)

-- the regions of a file
unfoldable pub maps_of : List ℕ → List Stream → Result (List Segment) MinidumpError
maps_of file streams = do
  text ← text_of file streams
  Ok (regions_in text)
