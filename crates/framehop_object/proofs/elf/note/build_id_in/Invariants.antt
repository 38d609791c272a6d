use Rattle.std.proofs.Common.{◌≡◌, length}
use Rattle.framehop_object.specs.Elf.Note.{build_id_of}
use Rattle.framehop_object.proofs.elf.note.build_id_in.Given as goal

abbrev pub invariant-loop-note : goal.invariant-loop-note
invariant-loop-note l = build_id_of l.fn.notes ≡ build_id_of l.rest

abbrev pub decreases-loop-note : goal.decreases-loop-note
decreases-loop-note l = length l.rest
