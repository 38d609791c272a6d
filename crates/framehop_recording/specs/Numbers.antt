-- The numbers of the format, under the names of their sources: include/uapi/linux/perf_event.h,
-- tools/lib/perf/include/perf/event.h and tools/perf/util/header.h of Linux, and perf.data-file-format.txt.
use Rattle.std.specs.Prelude.{ℕ}

-- `enum perf_event_type`, the kinds of records
abbrev pub PERF_RECORD_MMAP : ℕ
PERF_RECORD_MMAP = 1

abbrev pub PERF_RECORD_LOST : ℕ
PERF_RECORD_LOST = 2

abbrev pub PERF_RECORD_COMM : ℕ
PERF_RECORD_COMM = 3

abbrev pub PERF_RECORD_EXIT : ℕ
PERF_RECORD_EXIT = 4

abbrev pub PERF_RECORD_FORK : ℕ
PERF_RECORD_FORK = 7

abbrev pub PERF_RECORD_SAMPLE : ℕ
PERF_RECORD_SAMPLE = 9

abbrev pub PERF_RECORD_MMAP2 : ℕ
PERF_RECORD_MMAP2 = 10

-- `enum perf_user_event_type`, perf's own kinds of records
abbrev pub PERF_RECORD_USER_TYPE_START : ℕ
PERF_RECORD_USER_TYPE_START = 64

abbrev pub PERF_RECORD_AUXTRACE : ℕ
PERF_RECORD_AUXTRACE = 71

abbrev pub PERF_RECORD_COMPRESSED : ℕ
PERF_RECORD_COMPRESSED = 81

abbrev pub PERF_RECORD_COMPRESSED2 : ℕ
PERF_RECORD_COMPRESSED2 = 83

-- the flags of a record, `misc`, of which each kind has its own meaning
abbrev pub PERF_RECORD_MISC_MMAP_DATA : ℕ
PERF_RECORD_MISC_MMAP_DATA = 0x2000

abbrev pub PERF_RECORD_MISC_COMM_EXEC : ℕ
PERF_RECORD_MISC_COMM_EXEC = 0x2000

abbrev pub PERF_RECORD_MISC_FORK_EXEC : ℕ
PERF_RECORD_MISC_FORK_EXEC = 0x2000

abbrev pub PERF_RECORD_MISC_MMAP_BUILD_ID : ℕ
PERF_RECORD_MISC_MMAP_BUILD_ID = 0x4000

abbrev pub PERF_RECORD_MISC_BUILD_ID_SIZE : ℕ
PERF_RECORD_MISC_BUILD_ID_SIZE = 0x8000

-- `enum perf_event_sample_format`, the fields of a sample
abbrev pub PERF_SAMPLE_IP : ℕ
PERF_SAMPLE_IP = 0x1

abbrev pub PERF_SAMPLE_TID : ℕ
PERF_SAMPLE_TID = 0x2

abbrev pub PERF_SAMPLE_TIME : ℕ
PERF_SAMPLE_TIME = 0x4

abbrev pub PERF_SAMPLE_ADDR : ℕ
PERF_SAMPLE_ADDR = 0x8

abbrev pub PERF_SAMPLE_READ : ℕ
PERF_SAMPLE_READ = 0x10

abbrev pub PERF_SAMPLE_CALLCHAIN : ℕ
PERF_SAMPLE_CALLCHAIN = 0x20

abbrev pub PERF_SAMPLE_ID : ℕ
PERF_SAMPLE_ID = 0x40

abbrev pub PERF_SAMPLE_CPU : ℕ
PERF_SAMPLE_CPU = 0x80

abbrev pub PERF_SAMPLE_PERIOD : ℕ
PERF_SAMPLE_PERIOD = 0x100

abbrev pub PERF_SAMPLE_STREAM_ID : ℕ
PERF_SAMPLE_STREAM_ID = 0x200

abbrev pub PERF_SAMPLE_RAW : ℕ
PERF_SAMPLE_RAW = 0x400

abbrev pub PERF_SAMPLE_BRANCH_STACK : ℕ
PERF_SAMPLE_BRANCH_STACK = 0x800

abbrev pub PERF_SAMPLE_REGS_USER : ℕ
PERF_SAMPLE_REGS_USER = 0x1000

abbrev pub PERF_SAMPLE_STACK_USER : ℕ
PERF_SAMPLE_STACK_USER = 0x2000

abbrev pub PERF_SAMPLE_IDENTIFIER : ℕ
PERF_SAMPLE_IDENTIFIER = 0x10000

-- `sample_id_all` among the flags of `struct perf_event_attr`, the 19th of them
abbrev pub SAMPLE_ID_ALL : ℕ
SAMPLE_ID_ALL = 0x40000

-- `enum perf_sample_regs_abi`
abbrev pub PERF_SAMPLE_REGS_ABI_NONE : ℕ
PERF_SAMPLE_REGS_ABI_NONE = 0

abbrev pub PERF_SAMPLE_REGS_ABI_32 : ℕ
PERF_SAMPLE_REGS_ABI_32 = 1

abbrev pub PERF_SAMPLE_REGS_ABI_64 : ℕ
PERF_SAMPLE_REGS_ABI_64 = 2

-- `enum perf_event_x86_regs` of arch/x86/include/uapi/asm/perf_regs.h, the bits of sample_regs_user
abbrev pub PERF_REG_X86_AX : ℕ
PERF_REG_X86_AX = 0

abbrev pub PERF_REG_X86_BX : ℕ
PERF_REG_X86_BX = 1

abbrev pub PERF_REG_X86_CX : ℕ
PERF_REG_X86_CX = 2

abbrev pub PERF_REG_X86_DX : ℕ
PERF_REG_X86_DX = 3

abbrev pub PERF_REG_X86_SI : ℕ
PERF_REG_X86_SI = 4

abbrev pub PERF_REG_X86_DI : ℕ
PERF_REG_X86_DI = 5

abbrev pub PERF_REG_X86_BP : ℕ
PERF_REG_X86_BP = 6

abbrev pub PERF_REG_X86_SP : ℕ
PERF_REG_X86_SP = 7

abbrev pub PERF_REG_X86_IP : ℕ
PERF_REG_X86_IP = 8

abbrev pub PERF_REG_X86_R8 : ℕ
PERF_REG_X86_R8 = 16

abbrev pub PERF_REG_X86_R9 : ℕ
PERF_REG_X86_R9 = 17

abbrev pub PERF_REG_X86_R10 : ℕ
PERF_REG_X86_R10 = 18

abbrev pub PERF_REG_X86_R11 : ℕ
PERF_REG_X86_R11 = 19

abbrev pub PERF_REG_X86_R12 : ℕ
PERF_REG_X86_R12 = 20

abbrev pub PERF_REG_X86_R13 : ℕ
PERF_REG_X86_R13 = 21

abbrev pub PERF_REG_X86_R14 : ℕ
PERF_REG_X86_R14 = 22

abbrev pub PERF_REG_X86_R15 : ℕ
PERF_REG_X86_R15 = 23

-- `enum perf_event_arm_regs` of arch/arm64/include/uapi/asm/perf_regs.h
abbrev pub PERF_REG_ARM64_X29 : ℕ
PERF_REG_ARM64_X29 = 29

abbrev pub PERF_REG_ARM64_LR : ℕ
PERF_REG_ARM64_LR = 30

abbrev pub PERF_REG_ARM64_SP : ℕ
PERF_REG_ARM64_SP = 31

abbrev pub PERF_REG_ARM64_PC : ℕ
PERF_REG_ARM64_PC = 32

-- the features of a recording, by the bit of each
abbrev pub HEADER_BUILD_ID : ℕ
HEADER_BUILD_ID = 2

abbrev pub HEADER_EVENT_DESC : ℕ
HEADER_EVENT_DESC = 12

-- a time that says that there is none: `~0ULL` of tools/perf/util/ordered-events.c
abbrev pub NO_TIME : ℕ
NO_TIME = 0xffffffffffffffff

-- `enum perf_callchain_context`, the marks in a call chain: what follows is of the kernel, or of the user's side. Numbers
-- from PERF_CONTEXT_MAX on are marks, and no addresses.
abbrev pub PERF_CONTEXT_KERNEL : ℕ
PERF_CONTEXT_KERNEL = 0xffffffffffffff80

abbrev pub PERF_CONTEXT_USER : ℕ
PERF_CONTEXT_USER = 0xfffffffffffffe00

abbrev pub PERF_CONTEXT_MAX : ℕ
PERF_CONTEXT_MAX = 0xfffffffffffff001
