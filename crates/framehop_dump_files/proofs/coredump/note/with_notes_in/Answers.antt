use Rattle.std.proofs.Common.{rules, ◌≡◌, ◌+◌, ◌<◌, ◌++◌, ◌∷◌, [], map, length, ap, ◌∙◌, arith}
use Rattle.std.proofs.lemmas.List.{length-drop}
use Rattle.std.proofs.lemmas.Result.{err_from_is_err_and}
use Rattle.framehop_dump_files.specs.Coredump.Note.{placed_view}
use Rattle.framehop_dump_files.proofs.GatherLemmas.{append-assoc, read-more, read-refused, read-all}
use Rattle.framehop_dump_files.proofs.NoteLemmas.{notes-more, notes-refused, notes-none}
use Rattle.framehop_dump_files.proofs.coredump.note.with_notes_in.Goals as goal

pub returns-in_err-note : goal.returns-in_err-note
returns-in_err-note c =
    let l = c.loop-rest in
    let some : 0 < length l.rest.now = search rules in
    let p = err_from_is_err_and c.from_residual.result c.from_residual.ensures.1 in
    rw (p.1, p.2) (record {
      exact = read-refused _ _ _ c.in_err-note.field-0.0 l.invariant.3
          (notes-refused l.offset l.rest.now c.in_err-note.field-0.0 c.in_err-note.ensures.exact some);
    })

pub loop-rest-preserved : goal.loop-rest-preserved
loop-rest-preserved c =
    let l = c.loop-rest in
    let note = c.in_ok-note.note in
    let size = c.in_ok-note.size in
    let shorter = ap length c.back-rest.ensures ∙ length-drop size l.rest.now in
    let taken = c.min-offset.ensures in
    let so_far = l.invariant.1 in (
      l.invariant.0 ++ note ∷ [],
      omega (arith, shorter, taken, so_far),
      λ list whole. rw (append-assoc list l.invariant.0 (note ∷ [])) (c.pushed-notes.ensures (list ++ l.invariant.0) (l.invariant.2 list whole)),
      read-more placed_view _ _ _ l.invariant.0 (note ∷ []) l.invariant.3
          (notes-more l.offset (l.offset + c.min-offset.result) l.rest.now c.back-rest.result.now (placed_view note) size c.in_ok-note.ensures.exact c.in_ok-note.ensures.forward (λ within. omega (arith, taken, within)) c.back-rest.ensures),
    )

pub returns : goal.returns
returns c =
    let l = c.loop-rest in
    let none : length l.rest.now ≡ 0 = search rules in
    record {
      exact = (l.invariant.0, read-all _ _ (map placed_view l.invariant.0) l.invariant.3 (notes-none l.offset l.rest.now none), l.invariant.2);
    }
