use Rattle.std.proofs.Common.{◌<◌, ◌≤◌, length, rules, arith}
use Rattle.framehop_explain.specs.Note.{IsNote}
use Rattle.framehop_explain.proofs.AnnotatedLemmas.{annotated-next, annotated-end, all-next, all-end}
use Rattle.framehop_explain.proofs.annotate.annotated.Goals as goal

pub loop-note-preserved : goal.loop-note-preserved
loop-note-preserved c =
    let notes = c.args.notes.now in
    let i = c.loop-note.note-index in
    let within : i < length notes = search rules in
    let is = c.note-item.is in
    let next = annotated-next c.loop-note.out.items c.loop-note.rest.now c.note-item.result notes i within is in
    (grind (arith, next), λ others. c.loop-note.invariant.1 (all-next IsNote c.note-item.result notes i within is (search rules) others))

pub returns : goal.returns
returns c =
    let notes = c.args.notes.now in
    let past : length notes ≤ c.loop-note.note-index = search rules in
    let end = annotated-end c.loop-note.out.items c.loop-note.rest.now notes c.loop-note.note-index past in
    record { annotated = grind (arith, end); notes = c.loop-note.invariant.1 (all-end IsNote notes c.loop-note.note-index past) }
