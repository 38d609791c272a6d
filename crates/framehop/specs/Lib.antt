-- What the contracts of this crate cite: modules, steps, walks, sessions.
--
-- Words that were chosen:
--
-- - *world*: unwinders as lists of modules, and how many generations are left; no cache and no generation number
-- - *cached world*: the same with caches, generations and their next number
-- - *unwinding*: what an architecture makes of rules and modules, under an allocation policy: one record
-- - *fresh*: read from the modules' bytes now, not from a cache
-- - *sound*: of a cache and an unwinder: each entry of its generation is what its modules give afresh
-- - *transparent*: of a cached world: each cache is sound for each unwinder, and generations tell lists of modules
--   apart
-- - *entry*: of an address: what a frame there is unwound by: an FDE, a rule of compact unwind info, or PE unwind info
-- - *location*: of a frame: an address with its kind, an instruction pointer or a return address
-- - *place*: where halving ends in a table's rows
-- - *block*: 2^n addresses from a multiple of 2^n on, for which an index has one place where a look-up begins
-- - *progress*: how far an iterator has come
pub mod Answer
pub mod CallFrames
pub mod Compact
pub mod Modules
pub mod Loaded
pub mod ModuleData
pub mod TextData
pub mod PlacedData
pub mod UnwindData
pub mod Policy
pub mod Lookup
pub mod Found
pub mod Parts
pub mod Unwinding
pub mod Told
pub mod Fresh
pub mod Meaning
pub mod Walk
pub mod Soundness
pub mod Iterator
pub mod UnwindIterator
pub mod World
pub mod CachedWorld
pub mod SessionView
pub mod StackBytes
pub mod Transparent
pub mod Rise
pub mod Meant
pub mod Aarch64
pub mod X86_64
pub use Rattle.framehop_core.specs.Memory
pub use Rattle.framehop_core.specs.Outcome
pub use Rattle.framehop_core.specs.CodeAddress
-- Lemmas that the traits' laws import: a reader of the contracts can pass them.
pub mod Laws
