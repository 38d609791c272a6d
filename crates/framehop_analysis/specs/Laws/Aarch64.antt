-- aarch64: the steps of the analysis, and the rules that it finds and what they do.
pub mod Units
pub mod Masks
pub mod Shapes
pub mod Apart
pub mod Encodings
pub mod Assembled
pub mod Runs
pub mod Calls
pub mod Ends
pub mod Prologue
pub mod Epilogue
pub mod Offsets
pub mod Undoes
pub mod Does
pub mod Reaches
pub mod Means
