-- The memory that a copy of a stack's bytes is.
use Rattle.std.specs.Prelude.{ℕ, ◌+◌, ◌-◌, List, length, Some, None, ◌&&◌, nat_le, if◌then◌else◌}
use Rattle.framehop_core.specs.Memory.{Memory}
use Rattle.framehop_bytes.specs.Bytes.{le8}

-- the little-endian word of eight bytes at each address, aligned or not, where all eight are among the bytes, of which the
-- first is at the base
abbrev pub memory_of_bytes : ℕ → List ℕ → Memory
memory_of_bytes base bytes address =
    if nat_le base address && nat_le (address - base + 8) (length bytes)
    then Some (le8 bytes (address - base))
    else None
