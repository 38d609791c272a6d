use Rattle.std.proofs.Common.{◌≡◌, ◌+◌, ◌-◌, ◌++◌, length}
use Rattle.std.specs.List.{slice_get}
use Rattle.std.specs.Option.{option_map}
use Rattle.framehop_macho.specs.SavedRegisters.{lists_of, six}
use Rattle.framehop_macho.proofs.x86_64.saved_registers.saved_registers.Given as goal

-- what follows the saved registers is the rest's list of the pool, and together they are the list of the rank
abbrev pub invariant-loop-place : goal.invariant-loop-place
invariant-loop-place l = record {
  pool : length l.pool.items + l.place ≡ 6;
  saved : length l.saved.items ≡ l.place;
  found : option_map (λ list. l.saved.items ++ list) (slice_get (lists_of (l.count - l.place) l.pool.items) l.rest) ≡ slice_get (lists_of l.count six) l.rank;
}
