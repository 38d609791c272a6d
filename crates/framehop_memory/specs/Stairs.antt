-- Runs of addresses, of which each is a start and a number of bytes.
use Rattle.std.specs.Prelude.{ℕ, ◌+◌, ◌<◌, ◌≤◌, List, length, Bool, ◌&&◌, nat_le, slice_index_or}
use Rattle.std.specs.List.{list_any}
use Rattle.framehop_memory.specs.declared.stairs.Run.{Run}

-- a run has so many bytes from an address on
abbrev pub has_run : ℕ → ℕ → Run → Bool
has_run address size run = nat_le run.start address && nat_le (address + size) (run.start + run.size)

-- one of some runs has them
abbrev pub have_run : List Run → ℕ → ℕ → Bool
have_run runs address size = list_any (has_run address size) runs

-- each run begins and ends at or after those before it
abbrev pub AreRising : List Run → Type 0
AreRising runs = (i j : ℕ) (d : Run) → i ≤ j → j < length runs →
    ((slice_index_or runs i d).start ≤ (slice_index_or runs j d).start)
    × ((slice_index_or runs i d).start + (slice_index_or runs i d).size ≤ (slice_index_or runs j d).start + (slice_index_or runs j d).size)
