use Rattle.std.proofs.Common.{◌≡◌, drop}
use Rattle.framehop_disk.specs.ObjectParts.{with_moved, with_sections}
use Rattle.framehop_disk.proofs.object_parts.move_sections.Given as goal

abbrev pub invariant-loop-section : goal.invariant-loop-section
invariant-loop-section l =
    with_sections l.left_out l.place (drop l.section-index l.sections) l.bytes
    ≡ with_moved l.left_out l.offset l.sections l.fn.bytes
