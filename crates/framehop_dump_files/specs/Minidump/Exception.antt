-- Why a minidump was made: MINIDUMP_EXCEPTION_STREAM, of 168 bytes, in which MINIDUMP_EXCEPTION is at 8.
use Rattle.std.specs.Prelude.{ℕ, List, length, Option, Some, None, not, Result, Ok, Err, nat_lt, ◌&&◌, ◌==◌, if◌then◌else◌}
use Rattle.framehop_bytes.specs.Bytes.{◌>>=◌, le4, le8}
use Rattle.framehop_dump_files.specs.Minidump.Numbers.{ExceptionStream, EXCEPTION_SIZE}
use Rattle.framehop_dump_files.specs.Minidump.Location.{location_at, located}
use Rattle.framehop_dump_files.specs.Minidump.Stream.{stream_of}
use Rattle.framehop_dump_files.specs.declared.minidump.error.MinidumpError.{MinidumpError}
use Rattle.framehop_dump_files.specs.declared.minidump.error.MinidumpError.TheVariants.{ShortStream}
use Rattle.framehop_dump_files.specs.declared.minidump.exception.Exception.{Exception}
use Rattle.framehop_dump_files.specs.declared.minidump.location.Location.{Location}
use Rattle.framehop_dump_files.specs.declared.minidump.stream.Stream.{Stream}
use Rattle.framehop_dump_files.specs.declared.minidump.thread.Thread.{Thread}

-- ThreadId, ExceptionCode, ExceptionFlags, ExceptionAddress, NumberParameters, the first two of ExceptionInformation, and
-- ThreadContext
abbrev pub exception_in : List ℕ → Exception
exception_in fields = record {
  tid = le4 fields 0;
  code = le4 fields 8;
  flags = le4 fields 12;
  address = le8 fields 24;
  parameter_count = le4 fields 32;
  first_parameter = le8 fields 40;
  second_parameter = le8 fields 48;
  context = location_at fields 160;
}

-- that of the stream, if there is one, which must have the size of the struct
abbrev pub exception_fields : ℕ → List ℕ → Result (Option Exception) MinidumpError
exception_fields offset fields =
    if nat_lt (length fields) EXCEPTION_SIZE then Err (ShortStream offset) else Ok (Some (exception_in fields))

abbrev pub exception_found : List ℕ → Option Stream → Result (Option Exception) MinidumpError
exception_found file None = Ok None
exception_found file (Some stream) =
    located file stream.location >>= (λ fields. exception_fields stream.location.offset fields)

-- that of the first such stream, if there is one
unfoldable pub exception_of : List ℕ → List Stream → Result (Option Exception) MinidumpError
exception_of file streams = exception_found file (stream_of streams ExceptionStream)

-- The registers of a thread: those of the exception if it is of this thread and has some, or else the thread's own, which
-- may be those with which it wrote the minidump.
abbrev pub context_of : Thread → Option Exception → Location
context_of thread None = thread.context
context_of thread (Some exception) =
    if (exception.tid == thread.tid) && not (exception.context.size == 0) then exception.context else thread.context
