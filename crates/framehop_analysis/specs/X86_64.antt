-- x86_64: instruction bytes, the machine, prologues and epilogues, and the rule of the analysis.
pub mod Bytes
pub mod Machine
pub mod Prologue
pub mod Epilogue
pub mod Analysed
