use Rattle.std.proofs.Common.{◌≡◌, ◌++◌, ◌∙◌, length, take, drop, get_or, sym, subst, arith}
use Rattle.std.specs.List.Sorted.{IsNonDecreasingBy}
use Rattle.std.proofs.lemmas.List.{take-append-le, take_all}
use Rattle.framehop_disk.specs.Wanted.{start_of}
use Rattle.framehop_disk.proofs.WantedLemmas.{order-wanting}
use Rattle.framehop_disk.proofs.core_parts.CoreParts.want.Goals as goal

pub invariant_of-self : goal.invariant_of-self
invariant_of-self c =
    let address = get_or c.args.addresses.now c.loop-address.address-index 0 in
    let old = c.as_mut_slice.result.now in
    let new = c.want-wanted.new.segments in
    let count = c.loop-address.self.segments.len in
    let rest = drop (length new) c.loop-address.self.segments.items in
    let order : IsNonDecreasingBy start_of old =
    subst (IsNonDecreasingBy start_of) (sym c.as_mut_slice.ensures.value) c.loop-address.invariant.ordered in
    let long : length new ≡ count = omega (arith, c.want-wanted.auto.segments, c.as_mut_slice.ensures.len) in
    let whole : take count (new ++ rest) ≡ new =
    take-append-le count new rest (omega (arith, long)) ∙ take_all count new (omega (arith, long)) in
    record {
      ordered = subst (IsNonDecreasingBy start_of) (sym (whole ∙ c.want-wanted.ensures.wanted order))
          (order-wanting address old order);
    }
