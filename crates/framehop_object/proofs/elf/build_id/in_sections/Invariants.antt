use Rattle.std.proofs.Common.{◌≡◌, length, drop}
use Rattle.framehop_object.specs.Elf.BuildId.{notes_of_section, first_in}
use Rattle.framehop_object.proofs.elf.build_id.in_sections.Given as goal

abbrev pub invariant-loop-section : goal.invariant-loop-section
invariant-loop-section l =
    first_in (notes_of_section l.file) (length l.file) l.sections ≡ first_in (notes_of_section l.file) l.left (drop l.section-index l.sections)
