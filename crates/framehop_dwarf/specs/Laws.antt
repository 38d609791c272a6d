-- What the trait of an architecture asks for: the steps by a row are what the row means (`Aarch64`, `X86_64`), and the
-- lemmas on the way there. They define nothing: a reader of the definitions can pass them.
pub mod Limits
pub mod Values
pub mod Exact
pub mod ValueMeaning
pub mod Columns
pub mod SimulationAarch64
pub mod SimulationX86_64
pub mod DirectAarch64
pub mod DirectX86_64
pub mod Aarch64
pub mod X86_64
