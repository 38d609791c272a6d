-- What a minidump says of a process (Microsoft's minidumpapiset.h; Breakpad's minidump_format.h, MD).
-- The code of a file: gABI, chapter 5, "Program Header".
use Rattle.std.specs.Prelude.{ℕ, ◌+◌, ◌-◌, ◌^◌, nat_le, nat_lt, max, min, List, [], ◌∷◌, ◌++◌, codes, length, map, Bool, true, false, ◌&&◌, ◌||◌, ◌==◌, if◌then◌else◌, Option, Some, None, Result, Ok, Err}
use Rattle.std.specs.Int.Count.{count_leading_zeros}
use Rattle.std.specs.List.{after_last, flat_map, fold, list_any, sum_by}
use Rattle.std.specs.Str.{str_eq_ignore_ascii_case}
use Rattle.framehop_bytes.specs.Bytes.{◌>>=◌}
use Rattle.framehop_dump_files.specs.declared.coredump.core_file.Machine.{Machine}
use Rattle.framehop_dump_files.specs.declared.coredump.core_file.Machine.TheVariants as dumped
use Rattle.framehop_object.specs.Elf.Segment.{loaded_segments_of}
use Rattle.framehop_dump_files.specs.Minidump.CodeView.{CodeViewView, of_pdb, of_elf, codeview_of}
use Rattle.framehop_dump_files.specs.Minidump.Exception.{exception_of, context_of}
use Rattle.framehop_dump_files.specs.Minidump.Location.{located}
use Rattle.framehop_dump_files.specs.Minidump.Memory.{ranges_of}
use Rattle.framehop_dump_files.specs.Minidump.LinuxMaps.{maps_of}
use Rattle.framehop_dump_files.specs.Minidump.MemoryInfo.{regions_of}
use Rattle.framehop_dump_files.specs.Minidump.MiscInfo.{process_id_of}
use Rattle.framehop_dump_files.specs.Minidump.Module.{modules_of}
use Rattle.framehop_dump_files.specs.Minidump.Stream.{streams_of}
use Rattle.framehop_dump_files.specs.Minidump.String.{string_of}
use Rattle.framehop_dump_files.specs.Minidump.SystemInfo.{system_info_of}
use Rattle.framehop_dump_files.specs.Minidump.Thread.{threads_of}
use Rattle.framehop_dump_files.specs.Minidump.ThreadName.{thread_names_of}
use Rattle.framehop_dump_files.specs.declared.minidump.error.MinidumpError.{MinidumpError}
use Rattle.framehop_dump_files.specs.declared.minidump.error.MinidumpError.TheVariants.{NoThreads, SharedHeaders, SharedNames}
use Rattle.framehop_dump_files.specs.declared.minidump.exception.Exception.{Exception}
use Rattle.framehop_memory.specs.Memory.{MemoryView}
use Rattle.framehop_memory.specs.Segment.{base_of, base_from}
use Rattle.framehop_memory.specs.declared.segment.Segment.{Segment}
use Rattle.framehop_dump_files.specs.declared.minidump.module.Module.{Module}
use Rattle.framehop_dump_files.specs.declared.minidump.stream.Stream.{Stream}
use Rattle.framehop_dump_files.specs.declared.minidump.system_info.Machine.{Machine as SystemMachine}
use Rattle.framehop_dump_files.specs.declared.minidump.system_info.Machine.TheVariants as system
use Rattle.framehop_dump_files.specs.declared.minidump.thread.Thread.{Thread}
use Rattle.framehop_dump_files.specs.declared.minidump.thread_name.ThreadName.{ThreadName}
use Rattle.framehop_processes.specs.Source.{SourceView}
use Rattle.framehop_processes.specs.Files.{is_unix_path, is_windows_path}
use Rattle.framehop_processes.specs.declared.files.Files.{Files}
use Rattle.framehop_processes.specs.declared.object_file.ObjectFile.{ObjectFile}
use Rattle.framehop_dumps.specs.Added.{AreFiles, object_called}
use Rattle.framehop_dumps.specs.Dump.{ThreadView, MappedCodeView, DumpView, of_context, crashed_first}
use Rattle.framehop_dumps.specs.Image.{head_at, segments_in}
use Rattle.framehop_dumps.specs.SharedHeaders.{headers_size}
use Rattle.framehop_dumps.specs.ThreadNames.{NamedView, named_view, name_among}
use Rattle.framehop_dumps.specs.declared.dump.Access.{Access}
use Rattle.framehop_dumps.specs.declared.dump.Cause.{Cause as WhyEnded}
use Rattle.framehop_dumps.specs.declared.dump.Cause.TheVariants as cause
use Rattle.framehop_dumps.specs.declared.dump.Exception.{Exception as EndedBy}
use Rattle.framehop_dumps.specs.declared.dump.Kind.TheVariants as kind
use Rattle.framehop_dumps.specs.declared.dump.Sent.{Sent}
use Rattle.framehop_dumps.specs.declared.minidump.LoadedModule.{LoadedModule}
use Rattle.framehop_dumps.specs.declared.minidump.Parts.{Parts}

-- PlatformId (MD_OS_WIN32_NT, MD_OS_LINUX, MD_OS_ANDROID), and the code of a minidump that was asked for without a
-- crash (MD_EXCEPTION_CODE_LIN_DUMP_REQUESTED)
abbrev pub WINDOWS : ℕ
WINDOWS = 2

abbrev pub LINUX : ℕ
LINUX = 0x8201

abbrev pub ANDROID : ℕ
ANDROID = 0x8203

abbrev pub DUMP_REQUESTED : ℕ
DUMP_REQUESTED = 0xffffffff

-- what a function gives for each of a list, or the first refusal
unfoldable pub each : {A B : Type 0} → (A → Result B MinidumpError) → List A → Result (List B) MinidumpError
each f [] = Ok []
each f (x ∷ xs) = do
  first ← f x
  others ← each f xs
  Ok (first ∷ others)

-- The same, where what is given may take so many bytes together, of which each takes its size. The function is given how many
-- are left.
unfoldable pub each_within : {A B : Type 0} → (ℕ → A → Result B MinidumpError) → (B → ℕ) → ℕ → List A → Result (List B) MinidumpError
each_within f size left [] = Ok []
each_within f size left (x ∷ xs) = do
  first ← f left x
  others ← each_within f size (left - size first) xs
  Ok (first ∷ others)

-- what is read at an offset and takes so many bytes, where so many are left
abbrev pub limited : {B : Type 0} → ℕ → ℕ → ℕ → B → Result B MinidumpError
limited left offset size value = if nat_lt left size then Err (SharedNames offset) else Ok value

-- What names and build ids may take together: UTF-8 has at most three bytes for the two of a unit of UTF-16, so what shares no
-- bytes of a file takes less than twice its size.
abbrev pub names_limit : List ℕ → ℕ
names_limit file = length file + length file

-- the machine of a dump
abbrev pub machine_of : SystemMachine → Machine
machine_of system.X86_64 = dumped.X86_64
machine_of system.Aarch64 = dumped.Aarch64

-- ExceptionCode is the signal on Linux, of which 0 is none; ExceptionFlags why it was sent, of which 0 is what writers have that
-- don't tell it; and ExceptionAddress what comes first of siginfo_t's union
abbrev pub sent_of : Exception → Option Sent
sent_of exception =
    if exception.flags == 0 then None else Some (record { code = exception.flags; fields = exception.address })

-- the signals that stop a process and end none: SIGSTOP, SIGTSTP, SIGTTIN and SIGTTOU of signal(7)
abbrev pub only_stops : ℕ → Bool
only_stops number = nat_le 19 number && nat_le number 22

abbrev pub signal_of : Exception → Option WhyEnded
signal_of exception =
    if (exception.code == 0) || ((exception.code == DUMP_REQUESTED) || only_stops exception.code) then None
    else Some (cause.Signal (record { number = exception.code; sent = sent_of exception }))

-- The first two parameters of an exception of Windows, if they tell of an access to memory: EXCEPTION_ACCESS_VIOLATION and
-- EXCEPTION_IN_PAGE_ERROR.
abbrev pub access_of : Exception → Option Access
access_of exception =
    if ((exception.code == 0xc0000005) || (exception.code == 0xc0000006)) && nat_le 2 exception.parameter_count
    then Some (record { kind = exception.first_parameter; address = exception.second_parameter }) else None

-- an exception of Windows
abbrev pub windows_exception : Exception → EndedBy
windows_exception exception =
    record { code = exception.code; address = exception.address; access = access_of exception }

-- a signal on Linux and Android, an exception of Windows, and else one by its code
abbrev pub cause_by : ℕ → Exception → Option WhyEnded
cause_by platform exception =
    if (platform == LINUX) || (platform == ANDROID) then signal_of exception
    else if platform == WINDOWS then Some (cause.Exception (windows_exception exception))
    else Some (cause.Other exception.code)

-- that of a thread, if the exception is of it
abbrev pub cause_of : ℕ → ℕ → Option Exception → Option WhyEnded
cause_of platform tid None = None
cause_of platform tid (Some exception) = if exception.tid == tid then cause_by platform exception else None

-- a thread with its name and the registers of its context
unfoldable pub thread_in : List ℕ → ℕ → ℕ → Option Exception → List NamedView → Thread → Result ThreadView MinidumpError
thread_in file platform code_mask exception names thread = do
  values ← located file (context_of thread exception)
  Ok (record {
    tid = thread.tid;
    name = name_among names thread.tid;
    cause = cause_of platform thread.tid exception;
    registers = of_context values code_mask;
  })

-- a module by its values: its first address, its size, its name, and the build id that its file must have, if that is
-- known
pub record LoadedView : Type 0 where
  pub base : ℕ
  pub size : ℕ
  pub name : List ℕ
  pub build_id : List ℕ

abbrev pub loaded_view : LoadedModule → LoadedView
loaded_view m = record { base = m.base; size = m.size; name = m.name.items; build_id = m.build_id.items }

-- The bits of an address of code that are no signature: those of the last address of a module. All, where there is no
-- module.
abbrev pub last_address : List LoadedView → ℕ
last_address modules = fold (λ last m. max last (min (m.base + m.size) (2 ^ 64 - 1))) 0 modules

-- all bits up to the highest one of an address
abbrev pub mask_up_to : ℕ → ℕ
mask_up_to address = if address == 0 then 2 ^ 64 - 1 else 2 ^ (64 - count_leading_zeros 64 address) - 1

-- what the file of a name must have in common with its module: the build id of an ELF file, and of one with a name of
-- Windows the GUID and the age of its program database (for an ELF file Breakpad makes these up)
abbrev pub build_id_by : List ℕ → Option CodeViewView → List ℕ
build_id_by name (Some (of_elf build_id)) = build_id
build_id_by name (Some (of_pdb guid age path guid_and_age)) = if is_windows_path name then guid_and_age else []
build_id_by name None = []

-- how many bytes the name and the build id of a module take
abbrev pub loaded_size : LoadedView → ℕ
loaded_size m = length m.name + length m.build_id

-- those of a module where so many are left
abbrev pub loaded_if : ℕ → ℕ → LoadedView → Result LoadedView MinidumpError
loaded_if left offset m = limited left offset (loaded_size m) m

-- a module as it is listed, with its name and its CodeView record, which may take so many bytes
unfoldable pub loaded_in : List ℕ → ℕ → Module → Result LoadedView MinidumpError
loaded_in file left m = do
  name ← string_of file m.name
  codeview ← codeview_of file m.codeview
  loaded_if left m.name (record { base = m.base; size = m.size; name = name; build_id = build_id_by name codeview })

-- a thread as it is listed, with its name, which may take so many bytes
unfoldable pub named_in : List ℕ → ℕ → ThreadName → Result NamedView MinidumpError
named_in file left listed = do
  name ← string_of file listed.name
  limited left listed.name (length name) (record { tid = listed.tid; name = name })

-- the names of threads
unfoldable pub names_in : List ℕ → List Stream → Result (List NamedView) MinidumpError
names_in file streams = do
  listed ← thread_names_of file streams
  each_within (named_in file) (λ named. length named.name) (names_limit file) listed

-- the modules of a file
unfoldable pub modules_in : List ℕ → List Stream → Result (List LoadedView) MinidumpError
modules_in file streams = do
  modules ← modules_of file streams
  each_within (loaded_in file) loaded_size (names_limit file) modules

-- the name of a path without its folders, which Windows parts by `\` and others by `/`
abbrev pub separator : ℕ → ℕ
separator platform = if platform == WINDOWS then 92 else 47

abbrev pub file_name : ℕ → List ℕ → List ℕ
file_name separator path = after_last (λ byte. byte == separator) path

-- the name of the program: that of the first module
abbrev pub program_name : ℕ → List LoadedView → Option (List ℕ)
program_name platform [] = None
program_name platform (m ∷ others) = Some (file_name (separator platform) m.name)

-- A process of 32 bits on a Windows of 64 bits has the library that takes its calls: `wow64.dll`, in any case of letters.
abbrev pub is_wow64 : LoadedView → Bool
is_wow64 m = str_eq_ignore_ascii_case (file_name 92 m.name) (codes "wow64.dll")

abbrev pub has_wow64 : ℕ → List LoadedView → Bool
has_wow64 platform modules = (platform == WINDOWS) && list_any is_wow64 modules

-- which memory could be executed: as Windows says it, and as Linux does
unfoldable pub all_regions_of : List ℕ → List Stream → Result (List Segment) MinidumpError
all_regions_of file streams = do
  regions ← regions_of file streams
  maps ← maps_of file streams
  Ok (regions ++ maps)

-- the parts of a minidump that others are read by: its streams, its modules and the names of its threads
pub record PartsView : Type 0 where
  pub streams : List Stream
  pub modules : List LoadedView
  pub names : List NamedView

abbrev pub parts_view : Parts → PartsView
parts_view parts = record {
  streams = parts.streams.items;
  modules = map loaded_view parts.modules.items;
  names = map named_view parts.names.items;
}

-- a minidump without threads is refused
abbrev pub some_listed : List Thread → Result (List Thread) MinidumpError
some_listed [] = Err NoThreads
some_listed (thread ∷ others) = Ok (thread ∷ others)

-- the threads, those first that ended the process
unfoldable pub dumped_threads_of : List ℕ → PartsView → ℕ → Result (List ThreadView) MinidumpError
dumped_threads_of file parts platform = do
  exception ← exception_of file parts.streams
  all_listed ← threads_of file parts.streams
  listed ← some_listed all_listed
  threads ← each (thread_in file platform (mask_up_to (last_address parts.modules)) exception parts.names) listed
  Ok (crashed_first threads)

-- how many bytes the program headers and the notes have that the first bytes of a module tell of, as memory has them
abbrev pub module_size : MemoryView → LoadedView → ℕ
module_size memory m = headers_size (head_at memory m.base)

-- modules that together have no more of them than memory has bytes
abbrev pub with_own_modules : MemoryView → List LoadedView → Result (List LoadedView) MinidumpError
with_own_modules memory modules =
    if nat_lt (length memory.file) (sum_by (module_size memory) modules) then Err SharedHeaders else Ok modules

-- what else a minidump says, but for where its code was mapped
unfoldable pub dump_in : List ℕ → PartsView → Result DumpView MinidumpError
dump_in file parts = do
  system ← system_info_of file parts.streams
  threads ← dumped_threads_of file parts system.platform
  ranges ← ranges_of file parts.streams
  regions ← all_regions_of file parts.streams
  pid ← process_id_of file parts.streams
  own ← with_own_modules (record { file = file; ranges = ranges }) parts.modules
  Ok (record {
    kind = kind.Minidump;
    memory = record { file = file; ranges = ranges };
    segments = regions;
    machine = machine_of system.machine;
    threads = threads;
    code = [];
    name = program_name system.platform own;
    pid = pid;
    wow64 = has_wow64 system.platform own;
  })

-- those parts of a minidump
unfoldable pub parts_of : List ℕ → Result PartsView MinidumpError
parts_of file = do
  streams ← streams_of file
  modules ← modules_in file streams
  names ← names_in file streams
  Ok (record { streams = streams; modules = modules; names = names })

-- what else it says, and its modules, or the first refusal
unfoldable pub minidump_of : List ℕ → Result (DumpView × List LoadedView) MinidumpError
minidump_of file = do
  parts ← parts_of file
  dump ← dump_in file parts
  Ok (dump, parts.modules)

-- the segments of an ELF file that was read: of a file with a path of Unix
abbrev pub object_segments : Bool → Option ObjectFile → List Segment
object_segments true (Some object) = object.segments.items
object_segments true None = []
object_segments false object = []

-- the first segments, or else the others
abbrev pub or_else : List Segment → List Segment → List Segment
or_else [] others = others
or_else (segment ∷ segments) others = segment ∷ segments

-- the base of a PE file, which has a name of Windows, is its first address
abbrev pub base_by_name : LoadedView → Option ℕ
base_by_name m = if is_windows_path m.name then Some m.base else None

-- by its first bytes in memory, where it is one mapping
abbrev pub whole_base : List ℕ → LoadedView → Option ℕ
whole_base head m =
    base_of (loaded_segments_of (segments_in head)) 0 (min (m.base + m.size) (2 ^ 64 - 1) - m.base) m.base

-- all addresses of a module, as where nothing says which have code
abbrev pub whole : List ℕ → LoadedView → MappedCodeView
whole head m = record {
  start = m.base;
  end = min (m.base + m.size) (2 ^ 64 - 1);
  offset = 0;
  path = m.name;
  head = head;
  build_id = m.build_id;
  base = base_by_name m;
  memory_base = whole_base head m;
}

-- those of a segment that may be executed, by where the stated address 0 is; an address above the last is the last
abbrev pub segment_code : List ℕ → LoadedView → ℕ → Segment → List MappedCodeView
segment_code head m base segment = if segment.is_code then record {
  start = min (base + segment.address) (2 ^ 64 - 1);
  end = min (min (base + segment.address) (2 ^ 64 - 1) + segment.size) (2 ^ 64 - 1);
  offset = segment.offset;
  path = m.name;
  head = head;
  build_id = m.build_id;
  base = Some base;
  memory_base = None;
} ∷ [] else []

-- the code of a module by its segments and its base; without a base it is all its addresses
abbrev pub code_with : List ℕ → LoadedView → List Segment → Option ℕ → List MappedCodeView
code_with head m segments (Some base) = flat_map (segment_code head m base) segments
code_with head m segments None = whole head m ∷ []

abbrev pub code_by : List ℕ → LoadedView → List Segment → List MappedCodeView
code_by head m segments = code_with head m segments (base_from segments m.base)

-- The segments of a module, by what was read of its file, or else by its first bytes in memory.
abbrev pub segments_of : Files → LoadedView → List ℕ → List Segment
segments_of files m head =
    or_else (object_segments (is_unix_path m.name) (object_called files m.name)) (loaded_segments_of (segments_in head))

-- the code of a module
abbrev pub code_in : MemoryView → Files → LoadedView → List MappedCodeView
code_in memory files m = code_by (head_at memory m.base) m (segments_of files m (head_at memory m.base))

-- that of modules, one after another
abbrev pub code_of : MemoryView → Files → List LoadedView → List MappedCodeView
code_of memory files modules = flat_map (code_in memory files) modules

-- The files of modules, each once. The build id of each is to be the one that is told.
abbrev pub AreModuleFiles : SourceView → List LoadedView → Files → Type 0
AreModuleFiles source modules files = AreFiles source (map (λ m. (m.name, m.build_id)) modules) files

-- what is known of a process by a minidump, and by the files of its modules
abbrev pub dump_with : DumpView × List LoadedView → Files → DumpView
dump_with minidump files = record minidump.0 { code = code_of minidump.0.memory files minidump.1 }
