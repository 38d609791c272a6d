use Rattle.std.proofs.Common.{List, ℕ, ap, sym, ◌∙◌}
use Rattle.framehop_object.specs.Elf.Note.{note_view, build_id_of}
use Rattle.framehop_object.proofs.NoteLemmas.{build_id_of-first, build_id_of-later, build_id_of-none}
use Rattle.framehop_object.proofs.elf.note.build_id_in.Goals as goal

pub returns-then-is_build_id : goal.returns-then-is_build_id
returns-then-is_build_id c =
    let passes = sym c.is_build_id.ensures ∙ c.if-is_build_id.true in
    sym (c.loop-note.invariant ∙ build_id_of-first c.loop-note.rest.now (note_view c.in-Some.note) c.in-Some.size c.in-Some.ensures.exact c.in-Some.ensures.forward passes)

pub loop-note-preserved : goal.loop-note-preserved
loop-note-preserved c =
    let fails = sym c.is_build_id.ensures ∙ c.if-is_build_id.false in
    c.loop-note.invariant
    ∙ build_id_of-later c.loop-note.rest.now (note_view c.in-Some.note) c.in-Some.size c.in-Some.ensures.exact c.in-Some.ensures.forward fails
    ∙ ap (λ (bytes : List ℕ). build_id_of bytes) (sym c.back-rest.ensures)

pub returns : goal.returns
returns c = sym (c.loop-note.invariant ∙ build_id_of-none c.loop-note.rest.now c.in_default.ensures.exact)
