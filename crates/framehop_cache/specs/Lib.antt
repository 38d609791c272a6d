-- What the contracts of this crate cite: the cache as sets of entries, and what a lookup returns.
pub mod Cache
pub mod CacheSet
pub mod CacheResult
