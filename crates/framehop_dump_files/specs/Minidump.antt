-- What the contracts of its module cite: the parts of a minidump.
--
-- The sources are Microsoft's minidumpapiset.h (the structs that begin with MINIDUMP) and winnt.h, and Breakpad's
-- minidump_format.h and minidump_cpu_arm64.h (those that begin with MD).
pub mod Numbers
pub mod Location
pub mod Header
pub mod Stream
pub mod List
pub mod SystemInfo
pub mod MiscInfo
pub mod Memory
pub mod MemoryInfo
pub mod LinuxMaps
pub mod Thread
pub mod ThreadName
pub mod Exception
pub mod Registers
pub mod Module
pub mod String
pub mod CodeView
