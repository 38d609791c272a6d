use Rattle.std.proofs.Common.{◌≡◌, ◌<◌, ◌+◌, [], ◌∷◌, map, drop, length, Result, sym, ap, ◌∙◌, subst, length-append, arith}
use Rattle.std.proofs.lemmas.List.{at_drop_more, at_drop_all, take_rest}
use Rattle.framehop_backtrace.specs.declared.frame.BacktraceEnd.{BacktraceEnd}
use Rattle.framehop_backtrace.specs.declared.frame.FoundBy.{FoundBy}
use Rattle.framehop_frames.specs.Notes.{noted_frame, caller_of, IsFrameNote}
use Rattle.framehop_frames.proofs.NoteLemmas.{AreUpTo, next-note, all-notes}
use Rattle.framehop_frames.proofs.explain.note_frames.Goals as goal

pub loop-at-preserved : goal.loop-at-preserved
loop-at-preserved g c =
    let l = c.loop-at in
    let frames = c.args.frames.now in
    let frame = c.index-frames-at.result in
    let note = c.in_ok-frame_note.field-0 in
    let is_note = g.U.Steps.is_note (g.U.Unwinder.unwinder_view c.args.unwinder.now).modules (g.M.Words.memory c.args.words.now) in
    let within : l.at < length frames = omega arith in
    let left : drop l.at frames ≡ frame ∷ drop (l.at + 1) frames =
    at_drop_more (λ xs. xs) frames l.at frame within ∙ ap (λ x. x ∷ drop (l.at + 1) frames) (sym c.index-frames-at.is) in
    let rest = ap (λ later. caller_of c.args.end (map noted_frame later)) (take_rest frames (l.at + 1)) in
    let noted = subst (λ (caller : Result FoundBy BacktraceEnd). IsFrameNote is_note (noted_frame frame) caller note) (c.caller_of-caller.ensures ∙ rest) c.in_ok-frame_note.ensures in
    let next = next-note is_note c.args.end frames c.args.notes.now.items l.at l.notes.items frame note within left noted l.invariant.1 in
    let items = c.in_ok-push.ensures.items in
    let size = ap length items ∙ length-append l.notes.items (note ∷ []) in (
      omega (arith, size, l.invariant.0),
      subst (λ notes. AreUpTo is_note c.args.end frames c.args.notes.now.items (l.at + 1) notes) (sym items) next,
    )

pub returns-clause-notes : goal.returns-clause-notes
returns-clause-notes g c =
    let l = c.loop-at in
    let frames = c.args.frames.now in
    let is_note = g.U.Steps.is_note (g.U.Unwinder.unwinder_view c.args.unwinder.now).modules (g.M.Words.memory c.args.words.now) in
    all-notes is_note c.args.end frames c.args.notes.now.items l.at l.notes.items (at_drop_all (λ xs. xs) frames l.at (omega arith)) l.invariant.1
