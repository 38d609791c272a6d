use Rattle.std.proofs.Common.{◌≡◌, ◌++◌, drop}
use Rattle.std.specs.List.{AllByRecursion}
use Rattle.framehop_explain.specs.Annotated.{annotated}
use Rattle.framehop_explain.specs.Note.{IsNote}
use Rattle.framehop_explain.proofs.annotate.annotated.Given as goal

abbrev pub invariant-loop-note : goal.invariant-loop-note
invariant-loop-note l =
    (l.out.items ++ annotated l.rest (drop l.note-index l.notes) ≡ annotated l.text l.notes)
    × (AllByRecursion IsNote (drop l.note-index l.notes) → AllByRecursion IsNote l.notes)
