-- On what the process ran: MINIDUMP_SYSTEM_INFO.
-- Breakpad's is MDRawSystemInfo.
use Rattle.std.specs.Prelude.{ℕ, List, length, Option, Some, None, Result, Ok, Err, nat_lt, ◌==◌, if◌then◌else◌}
use Rattle.framehop_bytes.specs.Bytes.{◌>>=◌, le2, le4}
use Rattle.framehop_dump_files.specs.Minidump.Numbers.{SystemInfoStream, PROCESSOR_ARCHITECTURE_AMD64, PROCESSOR_ARCHITECTURE_ARM64, MD_CPU_ARCHITECTURE_ARM64_OLD}
use Rattle.framehop_dump_files.specs.Minidump.Location.{located}
use Rattle.framehop_dump_files.specs.Minidump.Stream.{stream_of}
use Rattle.framehop_dump_files.specs.declared.minidump.error.MinidumpError.{MinidumpError}
use Rattle.framehop_dump_files.specs.declared.minidump.error.MinidumpError.TheVariants.{NoSystemInfo, UnknownMachine, ShortStream}
use Rattle.framehop_dump_files.specs.declared.minidump.stream.Stream.{Stream}
use Rattle.framehop_dump_files.specs.declared.minidump.system_info.Machine.{Machine}
use Rattle.framehop_dump_files.specs.declared.minidump.system_info.Machine.TheVariants.{X86_64, Aarch64}
use Rattle.framehop_dump_files.specs.declared.minidump.system_info.SystemInfo.{SystemInfo}

-- the machine of a ProcessorArchitecture
abbrev pub machine_of : ℕ → ℕ → Result Machine MinidumpError
machine_of offset architecture =
    if architecture == PROCESSOR_ARCHITECTURE_AMD64 then Ok X86_64
    else if architecture == PROCESSOR_ARCHITECTURE_ARM64 then Ok Aarch64
    else if architecture == MD_CPU_ARCHITECTURE_ARM64_OLD then Ok Aarch64
    else Err (UnknownMachine offset)

-- ProcessorArchitecture and PlatformId, at 0 and 20
abbrev pub system_info_in : ℕ → List ℕ → Result SystemInfo MinidumpError
system_info_in offset fields =
    if nat_lt (length fields) 24 then Err (ShortStream offset)
    else machine_of offset (le2 fields 0) >>= (λ machine. Ok (record { machine = machine; platform = le4 fields 20 }))

-- where there is none, the refusal is at NumberOfStreams of the header
abbrev pub system_info_found : List ℕ → Option Stream → Result SystemInfo MinidumpError
system_info_found file None = Err (NoSystemInfo 8)
system_info_found file (Some stream) =
    located file stream.location >>= (λ fields. system_info_in stream.location.offset fields)

unfoldable pub system_info_of : List ℕ → List Stream → Result SystemInfo MinidumpError
system_info_of file streams = system_info_found file (stream_of streams SystemInfoStream)
