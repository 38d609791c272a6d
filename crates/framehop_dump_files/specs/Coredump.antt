-- What the contracts of its module cite: the parts of a core file.
--
-- The sources are the System V gABI, chapter 5 ("Program Header", "Note Section"), the manual page core(5), and Linux,
-- as each file says.
pub mod Numbers
pub mod Refusal
pub mod CoreFile
pub mod Note
pub mod SignalInfo
pub mod Thread
pub mod OtherSystem
pub mod Registers
pub mod MappedFile
pub mod Process
pub mod AuxiliaryVector
pub mod Memory
