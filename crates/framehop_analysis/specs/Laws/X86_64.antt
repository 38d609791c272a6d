-- x86_64: the steps of the analysis, and the rules that it finds and what they do.
pub mod Pushes
pub mod Pops
pub mod Steps
pub mod Prologue
pub mod Epilogue
pub mod Undoes
pub mod Does
pub mod Reaches
pub mod Means
