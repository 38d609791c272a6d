-- aarch64: instruction words, the machine, prologues and epilogues, and the rule of the analysis.
pub mod Words
pub mod Units
pub mod Machine
pub mod Prologue
pub mod Epilogue
pub mod Detector
pub mod Analysed
