-- What the contracts of this crate cite: answers with notes, the notes of a session with remarks, runs of the program,
-- and of a file how it is read, its functions, its rows and what it tells of addresses.
pub mod Explained
pub mod FaultText
pub mod Faults
pub mod FileText
pub mod Files
pub mod Functions
pub mod Remarks
pub mod RowText
pub mod Runs
pub mod SessionNotes
