-- What the contracts of this crate cite: what the options of the command line ask for, which of them do not go together, how
-- recordings and core files are read in parts, and with which status the program ends.
pub mod CommandLine
pub mod Cores
pub mod Events
pub mod Form
pub mod Misuse
pub mod Options
pub mod RecordingParts
pub mod Samples
pub mod Stacks
pub mod Statuses
