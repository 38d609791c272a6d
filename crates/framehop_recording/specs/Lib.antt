-- What the contracts of this crate cite: the parts of a recording, from its header to the registers of a sample.
--
-- The sources are Linux's tools/perf/Documentation/perf.data-file-format.txt, include/uapi/linux/perf_event.h, and
-- perf_regs.h of arch/x86/include/uapi/asm and arch/arm64/include/uapi/asm.
pub mod Numbers
pub mod Fields
pub mod Bytes
pub mod Header
pub mod Attributes
pub mod Records
pub mod Events
pub mod Order
pub mod Mapping
pub mod BuildIds
pub mod EventNames
pub mod Tasks
pub mod Sample
pub mod Chain
pub mod Registers
