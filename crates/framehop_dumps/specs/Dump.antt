-- What is known of a process that is gone, by a core file or a minidump.
use Rattle.std.specs.Prelude.{nat_eq, ℕ, List, [], ◌++◌, codes, map, filter, Bool, true, false, not, Option, option_map, is_some, unwrap_or}
use Rattle.std.specs.Cmp.Lexicographic.{pointwise}
use Rattle.std.specs.List.{find}
use Rattle.framehop_core.specs.Memory.{Memory}
use Rattle.framehop_dump_files.specs.declared.coredump.core_file.Machine.{Machine}
use Rattle.framehop_memory.specs.Code.{is_code_in}
use Rattle.framehop_memory.specs.Memory.{MemoryView, memory_view, word_of}
use Rattle.framehop_memory.specs.declared.segment.Segment.{Segment}
use Rattle.framehop_dumps.specs.declared.dump.Cause.{Cause}
use Rattle.framehop_dumps.specs.declared.dump.Dump.{Dump}
use Rattle.framehop_dumps.specs.declared.dump.Kind.{Kind}
use Rattle.framehop_dumps.specs.declared.dump.Kind.TheVariants.{CoreFile, Minidump}
use Rattle.framehop_dumps.specs.declared.dump.MappedCode.{MappedCode}
use Rattle.framehop_dumps.specs.declared.dump.Registers.{Registers}
use Rattle.framehop_dumps.specs.declared.dump.Registers.TheVariants.{Kernel, Context}
use Rattle.framehop_dumps.specs.declared.dump.Thread.{Thread}

-- what a kind of file is called
abbrev pub kind_name : Kind → List ℕ
kind_name CoreFile = codes "core file"
kind_name Minidump = codes "minidump"

-- registers by their values: as Linux keeps them, and the bits of an address of code that are its signature; or a
-- context, and the bits that are none
pub data RegistersView : Type 0 where
  of_kernel : List ℕ → Option ℕ → RegistersView
  of_context : List ℕ → ℕ → RegistersView

abbrev pub registers_view : Registers → RegistersView
registers_view (Kernel values pac_mask) = of_kernel values.now pac_mask
registers_view (Context values code_mask) = of_context values.now code_mask

-- a thread by its values
pub record ThreadView : Type 0 where
  pub tid : ℕ
  pub name : Option (List ℕ)
  pub cause : Option Cause
  pub registers : RegistersView

abbrev pub thread_view : Thread → ThreadView
thread_view thread = record {
  tid = thread.tid;
  name = option_map (λ name. name.now) thread.name;
  cause = thread.cause;
  registers = registers_view thread.registers;
}

-- a thread ended its process (`true`), or did not
abbrev pub is_ended_by : Bool → ThreadView → Bool
is_ended_by true thread = is_some thread.cause
is_ended_by false thread = not (is_some thread.cause)

-- the threads that ended their process before the others
abbrev pub crashed_first : List ThreadView → List ThreadView
crashed_first threads = filter (is_ended_by true) threads ++ filter (is_ended_by false) threads

-- mapped code by its values
pub record MappedCodeView : Type 0 where
  pub start : ℕ
  pub end : ℕ
  pub offset : ℕ
  pub path : List ℕ
  pub head : List ℕ
  pub build_id : List ℕ
  pub base : Option ℕ
  pub memory_base : Option ℕ

abbrev pub mapped_code_view : MappedCode → MappedCodeView
mapped_code_view code = record {
  start = code.start;
  end = code.end;
  offset = code.offset;
  path = code.path.now;
  head = code.head.now;
  build_id = code.build_id.now;
  base = code.base;
  memory_base = code.memory_base;
}

-- what is known of a process, by its values
pub record DumpView : Type 0 where
  pub kind : Kind
  pub memory : MemoryView
  pub segments : List Segment
  pub machine : Machine
  pub threads : List ThreadView
  pub code : List MappedCodeView
  pub name : Option (List ℕ)
  pub pid : Option ℕ
  pub wow64 : Bool

abbrev pub dump_view : Dump → DumpView
dump_view dump = record {
  kind = dump.kind;
  memory = memory_view dump.memory;
  segments = dump.segments.segments.items;
  machine = dump.machine;
  threads = map thread_view dump.threads.items;
  code = map mapped_code_view dump.code.items;
  name = option_map (λ name. name.now) dump.name;
  pid = dump.pid;
  wow64 = dump.wow64;
}

-- the words of memory, as far as it was dumped
abbrev pub words_in : MemoryView → Memory
words_in memory address = word_of memory address

abbrev pub memory_in : DumpView → Memory
memory_in dump = words_in dump.memory

-- the first bytes of a file whose code was mapped, as far as memory has them: those of its first mapping
abbrev pub is_of_path : List ℕ → MappedCodeView → Bool
is_of_path path code = pointwise nat_eq code.path path

-- those bytes, by the path of the file
abbrev pub head_among : List MappedCodeView → List ℕ → List ℕ
head_among code path = unwrap_or (option_map (λ code. code.head) (find (is_of_path path) code)) []

abbrev pub head_of : DumpView → List ℕ → List ℕ
head_of dump path = head_among dump.code path

-- an address is in a segment that may be executed
abbrev pub is_code_at : DumpView → ℕ → Bool
is_code_at dump address = is_code_in dump.segments address
