use Rattle.framehop_disk.proofs.CorePartsLemmas.{apart-ordered}
use Rattle.framehop_disk.proofs.core_parts.CoreParts.read.Goals as goal

pub invariant_of-result : goal.invariant_of-result
invariant_of-result c =
    let found = rw c.in-Some-2.is at c.in_ok-segments.ensures in
    record { ordered = apart-ordered c.in-Some.front.bytes.items c.in-Some.front.headers.items c.args.size c.in-Some-2.segments.items found }
