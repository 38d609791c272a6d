-- What a core file says of a process (gABI, chapter 5, "Program Loading"; `core(5)`).
-- Which code may be executed: gABI, chapter 5, "Program Header", p_flags.
use Rattle.std.specs.Prelude.{ℕ, ◌+◌, ◌-◌, ◌^◌, min, List, [], ◌∷◌, ◌++◌, codes, map, Bool, true, false, not, nat_eq, ◌&&◌, ◌||◌, ◌==◌, if◌then◌else◌, Option, Some, None, option_map, Result, Ok, Err}
use Rattle.std.specs.Cmp.Lexicographic.{pointwise}
use Rattle.std.specs.List.{find, flat_map}
use Rattle.std.specs.Option.{is_some}
use Rattle.framehop_bytes.specs.Bytes.{◌>>=◌}
use Rattle.framehop_dump_files.specs.Coredump.AuxiliaryVector.{vdso_of}
use Rattle.framehop_dump_files.specs.Coredump.CoreFile.{core_file_of}
use Rattle.framehop_dump_files.specs.Coredump.MappedFile.{MappedFileView, mapped_files_of}
use Rattle.framehop_dump_files.specs.Coredump.Note.{PlacedView, notes_of}
use Rattle.framehop_dump_files.specs.Coredump.OtherSystem.{without_threads}
use Rattle.framehop_dump_files.specs.Coredump.Process.{ProcessView, process_of}
use Rattle.framehop_dump_files.specs.Coredump.Thread.{ThreadView as NotedView, threads_of}
use Rattle.framehop_dump_files.specs.declared.coredump.core_file.Machine.{Machine}
use Rattle.framehop_dump_files.specs.declared.coredump.error.CoreFileError.{CoreFileError}
use Rattle.framehop_dump_files.specs.declared.coredump.signal_info.SignalInfo.{SignalInfo}
use Rattle.framehop_dump_files.specs.Coredump.Memory.{range_of}
use Rattle.framehop_object.specs.Elf.Segment.{loaded_segments_of}
use Rattle.framehop_object.specs.declared.elf.program_header.ProgramHeader.{ProgramHeader}
use Rattle.framehop_memory.specs.Code.{has_address}
use Rattle.framehop_memory.specs.Memory.{MemoryView}
use Rattle.framehop_memory.specs.Segment.{base_of}
use Rattle.framehop_memory.specs.declared.segment.Segment.{Segment}
use Rattle.framehop_dumps.specs.Dump.{ThreadView, MappedCodeView, DumpView, of_kernel, crashed_first}
use Rattle.framehop_dumps.specs.Image.{head_at, segments_in, build_id_in}
use Rattle.framehop_dumps.specs.SharedHeaders.{with_own_headers}
use Rattle.framehop_dumps.specs.declared.dump.Cause.{Cause}
use Rattle.framehop_dumps.specs.declared.dump.Cause.TheVariants.{Signal}
use Rattle.framehop_dumps.specs.declared.dump.Kind.TheVariants.{CoreFile}
use Rattle.framehop_dumps.specs.declared.dump.Sent.{Sent}

-- why a signal was sent, where its note is of the signal that the thread's is of
abbrev pub sent_of : ℕ → Option SignalInfo → Option Sent
sent_of signal None = None
sent_of signal (Some info) =
    if info.signal == signal then Some (record { code = info.code; fields = info.fields }) else None

-- the signal of a thread, if an earlier thread (`true`) has not got it; 0 is none
abbrev pub cause_unless : Bool → NotedView → Option Cause
cause_unless true thread = None
cause_unless false thread =
    if thread.signal == 0 then None
    else Some (Signal (record { number = thread.signal; sent = sent_of thread.signal thread.info }))

-- a thread by its note. A core file has no names of threads.
abbrev pub thread_of : Bool → NotedView → ThreadView
thread_of told thread = record {
  tid = thread.tid;
  name = None;
  cause = cause_unless told thread;
  registers = of_kernel thread.registers thread.pac_mask;
}

-- Threads, of which the first with a signal got it: Linux writes that one first, and the signal in the note of each
-- (`fill_note_info` of fs/binfmt_elf.c).
abbrev pub threads_by : Bool → List NotedView → List ThreadView
threads_by told [] = []
threads_by told (thread ∷ others) = thread_of told thread ∷ threads_by (told || not (thread.signal == 0)) others

-- a core file without threads is refused
abbrev pub some_threads : List PlacedView → List NotedView → Result (List NotedView) CoreFileError
some_threads notes [] = Err (without_threads notes)
some_threads notes (thread ∷ others) = Ok (thread ∷ others)

-- the threads of notes, of which there must be one
unfoldable pub noted_threads_of : Machine → List PlacedView → Result (List NotedView) CoreFileError
noted_threads_of machine notes = do
  noted ← threads_of machine notes
  some_threads notes noted

-- the name of the program and the number of the process
abbrev pub name_of : Option ProcessView → Option (List ℕ)
name_of process = option_map (λ process. process.name) process

abbrev pub pid_of : Option ProcessView → Option ℕ
pid_of process = option_map (λ process. process.pid) process

-- a file of a path is mapped from its first byte on
abbrev pub is_beginning : List ℕ → MappedFileView → Bool
is_beginning path mapped = (mapped.offset == 0) && pointwise nat_eq mapped.path path

-- the first bytes of a mapped file, as far as memory has them: at its first mapping that has the first byte
abbrev pub head_by : MemoryView → Option MappedFileView → List ℕ
head_by memory (Some mapped) = head_at memory mapped.start
head_by memory None = []

abbrev pub head_in : MemoryView → List MappedFileView → List ℕ → List ℕ
head_in memory files path = head_by memory (find (is_beginning path) files)

-- where the stated address 0 of a mapped file is, by the segments that its first bytes tell
abbrev pub base_in_memory : List Segment → MappedFileView → Option ℕ
base_in_memory segments mapped = base_of segments mapped.offset (mapped.end - mapped.start) mapped.start

-- A file is mapped to be executed. NT_FILE does not tell, but the segment that has its first address does. gdb writes
-- no segment for what it does not dump; then the program headers tell that memory has of the file.
abbrev pub is_code_by : List Segment → MappedFileView → Option Segment → Bool
is_code_by segments mapped (Some segment) = segment.is_code
is_code_by segments mapped None = is_some (base_in_memory segments mapped)

abbrev pub is_mapped_code : List Segment → List Segment → MappedFileView → Bool
is_mapped_code dumped segments mapped = is_code_by segments mapped (find (has_address mapped.start) dumped)

-- a file that is mapped to be executed, with the build id that memory has of it
abbrev pub mapped_code : List ℕ → MappedFileView → MappedCodeView
mapped_code head mapped = record {
  start = mapped.start;
  end = mapped.end;
  offset = mapped.offset;
  path = mapped.path;
  head = head;
  build_id = build_id_in head (segments_in head);
  base = None;
  memory_base = base_in_memory (loaded_segments_of (segments_in head)) mapped;
}

abbrev pub code_by : List Segment → List ℕ → MappedFileView → List MappedCodeView
code_by dumped head mapped =
    if is_mapped_code dumped (loaded_segments_of (segments_in head)) mapped then mapped_code head mapped ∷ [] else []

-- of a process with this memory, of which these segments were dumped
abbrev pub code_if : MemoryView → List Segment → List MappedFileView → MappedFileView → List MappedCodeView
code_if memory dumped files mapped = code_by dumped (head_in memory files mapped.path) mapped

-- those of mapped files
abbrev pub code_of : MemoryView → List Segment → List MappedFileView → List MappedCodeView
code_of memory dumped files = flat_map (code_if memory dumped files) files

-- the vdso, which no file has: as far as the segment has it that has its first address
abbrev pub vdso_mapped : ℕ → Segment → MappedFileView
vdso_mapped start segment = record {
  start = start;
  end = min (segment.address + segment.size) (2 ^ 64 - 1);
  offset = 0;
  path = codes "[vdso]";
}

abbrev pub vdso_at : List ℕ → MappedFileView → MappedCodeView
vdso_at head mapped = record {
  start = mapped.start;
  end = mapped.end;
  offset = mapped.offset;
  path = mapped.path;
  head = head;
  build_id = [];
  base = None;
  memory_base = base_in_memory (loaded_segments_of (segments_in head)) mapped;
}

abbrev pub vdso_in : MemoryView → ℕ → Option Segment → List MappedCodeView
vdso_in memory start None = []
vdso_in memory start (Some segment) = vdso_at (head_at memory start) (vdso_mapped start segment) ∷ []

abbrev pub vdso_code : MemoryView → List Segment → Option ℕ → List MappedCodeView
vdso_code memory dumped None = []
vdso_code memory dumped (Some start) = vdso_in memory start (find (has_address start) dumped)

-- the memory that was dumped of these segments
abbrev pub dumped_memory : List ℕ → List Segment → MemoryView
dumped_memory file dumped = record { file = file; ranges = map range_of dumped }

-- what the notes of a core file with these headers say, over memory of these segments, or the first refusal
unfoldable pub dump_by_notes : List ℕ → Machine × List ProgramHeader → List Segment → MemoryView → Result DumpView CoreFileError
dump_by_notes file core dumped memory = do
  notes ← notes_of file core.1
  threads ← noted_threads_of core.0 notes
  files ← mapped_files_of notes
  process ← process_of notes
  own ← with_own_headers memory files
  Ok (record {
    kind = CoreFile;
    memory = memory;
    segments = dumped;
    machine = core.0;
    threads = crashed_first (threads_by false threads);
    code = code_of memory dumped own ++ vdso_code memory dumped (vdso_of notes);
    name = name_of process;
    pid = pid_of process;
    wow64 = false;
  })

-- what the headers and the notes of a core file say, over the memory that was dumped, or the first refusal
unfoldable pub core_dump_of : List ℕ → Result DumpView CoreFileError
core_dump_of file = do
  core ← core_file_of file
  dump_by_notes file core (loaded_segments_of core.1) (dumped_memory file (loaded_segments_of core.1))

-- the same of the front of a core file, which has its headers and its notes, over another memory
unfoldable pub core_dump_over : List ℕ → MemoryView → Result DumpView CoreFileError
core_dump_over head memory = do
  core ← core_file_of head
  dump_by_notes head core (loaded_segments_of core.1) memory
