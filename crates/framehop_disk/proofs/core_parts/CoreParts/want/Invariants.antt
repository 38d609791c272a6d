use Rattle.std.proofs.Common.{◌≡◌, ◌||◌, drop}
use Rattle.std.specs.List.Sorted.{IsNonDecreasingBy}
use Rattle.framehop_disk.specs.Wanted.{has_new, start_of, wanting_all}
use Rattle.framehop_disk.proofs.core_parts.CoreParts.want.Given as goal

-- the addresses that are left add what is still to be wanted
abbrev pub invariant-loop-address : goal.invariant-loop-address
invariant-loop-address l = record {
  ordered : IsNonDecreasingBy start_of l.self.segments.items;
  wanted : wanting_all (drop l.address-index l.addresses) l.self.segments.items ≡ wanting_all l.addresses l.fn.self.segments.items;
  new : (l.is_new || has_new (drop l.address-index l.addresses) l.self.segments.items) ≡ has_new l.addresses l.fn.self.segments.items;
}
