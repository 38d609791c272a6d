mod Answers
mod Aarch64Prologue
mod Aarch64Ends
