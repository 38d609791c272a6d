-- Where fields begin, in bytes, under the names of their sources: include/uapi/linux/perf_event.h and
-- tools/lib/perf/include/perf/event.h of Linux, and perf.data-file-format.txt. Those of a record count from the end of its
-- `struct perf_event_header`.
use Rattle.std.specs.Prelude.{ℕ}

-- `struct perf_file_header` of tools/perf/util/header.h: magic, size, attr_size, attrs, data, event_types, adds_features
abbrev pub HEADER_MAGIC : ℕ
HEADER_MAGIC = 0

abbrev pub HEADER_SIZE : ℕ
HEADER_SIZE = 8

abbrev pub HEADER_ATTR_SIZE : ℕ
HEADER_ATTR_SIZE = 16

abbrev pub HEADER_ATTRS : ℕ
HEADER_ATTRS = 24

abbrev pub HEADER_DATA : ℕ
HEADER_DATA = 40

abbrev pub HEADER_EVENT_TYPES : ℕ
HEADER_EVENT_TYPES = 56

abbrev pub HEADER_ADDS_FEATURES : ℕ
HEADER_ADDS_FEATURES = 72

-- `struct perf_event_attr` of perf_event.h: type, size, config, sample_period, sample_type, read_format, flags, .., sample_regs_user
abbrev pub ATTR_SIZE : ℕ
ATTR_SIZE = 4

abbrev pub ATTR_SAMPLE_TYPE : ℕ
ATTR_SAMPLE_TYPE = 24

abbrev pub ATTR_FLAGS : ℕ
ATTR_FLAGS = 40

abbrev pub ATTR_SAMPLE_REGS_USER : ℕ
ATTR_SAMPLE_REGS_USER = 80

-- PERF_RECORD_MMAP: u32 pid, tid; u64 addr, len, pgoff; char filename[]
abbrev pub MMAP_PID : ℕ
MMAP_PID = 0

abbrev pub MMAP_ADDR : ℕ
MMAP_ADDR = 8

abbrev pub MMAP_LEN : ℕ
MMAP_LEN = 16

abbrev pub MMAP_PGOFF : ℕ
MMAP_PGOFF = 24

abbrev pub MMAP_FILENAME : ℕ
MMAP_FILENAME = 32

-- PERF_RECORD_MMAP2, the same up to pgoff: union { u32 maj, min; u64 ino, ino_generation } or { u8 build_id_size, reserved[3],
-- build_id[20] }; u32 prot, flags; char filename[]
abbrev pub MMAP2_BUILD_ID_SIZE : ℕ
MMAP2_BUILD_ID_SIZE = 32

abbrev pub MMAP2_BUILD_ID : ℕ
MMAP2_BUILD_ID = 36

abbrev pub MMAP2_FILENAME : ℕ
MMAP2_FILENAME = 64

-- PERF_RECORD_COMM: u32 pid, tid; char comm[]
abbrev pub COMM_PID : ℕ
COMM_PID = 0

abbrev pub COMM_TID : ℕ
COMM_TID = 4

abbrev pub COMM_COMM : ℕ
COMM_COMM = 8

-- PERF_RECORD_FORK and PERF_RECORD_EXIT: u32 pid, ppid, tid, ptid; u64 time
abbrev pub FORK_PID : ℕ
FORK_PID = 0

abbrev pub FORK_PPID : ℕ
FORK_PPID = 4

abbrev pub FORK_TID : ℕ
FORK_TID = 8

abbrev pub FORK_PTID : ℕ
FORK_PTID = 12

abbrev pub FORK_TIME : ℕ
FORK_TIME = 16

-- PERF_RECORD_LOST: u64 id, lost
abbrev pub LOST_LOST : ℕ
LOST_LOST = 8

-- `struct perf_record_header_build_id` of event.h: pid_t pid; u8 build_id[20], size, reserved[3]; char filename[]
abbrev pub BUILD_ID_PID : ℕ
BUILD_ID_PID = 0

abbrev pub BUILD_ID_BUILD_ID : ℕ
BUILD_ID_BUILD_ID = 4

abbrev pub BUILD_ID_SIZE : ℕ
BUILD_ID_SIZE = 24

abbrev pub BUILD_ID_FILENAME : ℕ
BUILD_ID_FILENAME = 28
