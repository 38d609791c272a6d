-- The numbers of the format, under the names of their sources: Microsoft's minidumpapiset.h and winnt.h, and Breakpad's
-- minidump_format.h, minidump_cpu_amd64.h and minidump_cpu_arm64.h (MD_).
use Rattle.std.specs.Prelude.{ℕ}

-- "MDMP", and the lower half of the version
abbrev pub MINIDUMP_SIGNATURE : ℕ
MINIDUMP_SIGNATURE = 0x504d444d

abbrev pub MINIDUMP_VERSION : ℕ
MINIDUMP_VERSION = 0xa793

-- MINIDUMP_STREAM_TYPE
abbrev pub ThreadListStream : ℕ
ThreadListStream = 3

abbrev pub ModuleListStream : ℕ
ModuleListStream = 4

abbrev pub MemoryListStream : ℕ
MemoryListStream = 5

abbrev pub ExceptionStream : ℕ
ExceptionStream = 6

abbrev pub SystemInfoStream : ℕ
SystemInfoStream = 7

abbrev pub Memory64ListStream : ℕ
Memory64ListStream = 9

abbrev pub MiscInfoStream : ℕ
MiscInfoStream = 15

abbrev pub MemoryInfoListStream : ℕ
MemoryInfoListStream = 16

abbrev pub ThreadNamesStream : ℕ
ThreadNamesStream = 24

abbrev pub MD_LINUX_MAPS : ℕ
MD_LINUX_MAPS = 0x47670009

-- Flags1 of MINIDUMP_MISC_INFO
abbrev pub MINIDUMP_MISC1_PROCESS_ID : ℕ
MINIDUMP_MISC1_PROCESS_ID = 1

-- ProcessorArchitecture
abbrev pub PROCESSOR_ARCHITECTURE_AMD64 : ℕ
PROCESSOR_ARCHITECTURE_AMD64 = 9

abbrev pub PROCESSOR_ARCHITECTURE_ARM64 : ℕ
PROCESSOR_ARCHITECTURE_ARM64 = 12

abbrev pub MD_CPU_ARCHITECTURE_ARM64_OLD : ℕ
MD_CPU_ARCHITECTURE_ARM64_OLD = 0x8003

-- sizes of entries, in bytes
abbrev pub DIRECTORY_SIZE : ℕ
DIRECTORY_SIZE = 12

abbrev pub THREAD_SIZE : ℕ
THREAD_SIZE = 48

abbrev pub THREAD_NAME_SIZE : ℕ
THREAD_NAME_SIZE = 12

abbrev pub MODULE_SIZE : ℕ
MODULE_SIZE = 108

abbrev pub MEMORY_DESCRIPTOR_SIZE : ℕ
MEMORY_DESCRIPTOR_SIZE = 16

abbrev pub MEMORY_INFO_SIZE : ℕ
MEMORY_INFO_SIZE = 48

-- that of what is before those entries
abbrev pub MEMORY_INFO_LIST_SIZE : ℕ
MEMORY_INFO_LIST_SIZE = 16

-- the bits of Protect of which each means that memory may be executed: PAGE_EXECUTE, PAGE_EXECUTE_READ,
-- PAGE_EXECUTE_READWRITE and PAGE_EXECUTE_WRITECOPY
abbrev pub PAGE_EXECUTE_ANY : ℕ
PAGE_EXECUTE_ANY = 0xf0

-- the size of MINIDUMP_EXCEPTION_STREAM
abbrev pub EXCEPTION_SIZE : ℕ
EXCEPTION_SIZE = 168

-- ContextFlags: CONTEXT_CONTROL and CONTEXT_INTEGER of x64, CONTEXT_ARM64_CONTROL, and MD_CONTEXT_ARM64_INTEGER_OLD
abbrev pub CONTEXT_AMD64_FLAGS : ℕ
CONTEXT_AMD64_FLAGS = 0x100003

abbrev pub CONTEXT_ARM64_CONTROL : ℕ
CONTEXT_ARM64_CONTROL = 0x400001

abbrev pub MD_CONTEXT_ARM64_INTEGER_OLD : ℕ
MD_CONTEXT_ARM64_INTEGER_OLD = 0x80000002

-- signatures of CodeView records: "RSDS", and MD_CVINFOELF_SIGNATURE
abbrev pub RSDS : ℕ
RSDS = 0x53445352

abbrev pub MD_CVINFOELF_SIGNATURE : ℕ
MD_CVINFOELF_SIGNATURE = 0x4270454c
