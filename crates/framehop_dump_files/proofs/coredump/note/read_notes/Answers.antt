use Rattle.std.proofs.Common.{rules, ◌≡◌, ◌+◌, ◌-◌, ◌++◌, map, drop, length, ap, sym, ◌∙◌}
use Rattle.std.proofs.Math.Seq.{drop-length}
use Rattle.std.proofs.lemmas.Result.{err_from_is_err_and}
use Rattle.framehop_dump_files.specs.Coredump.Note.{placed_view, notes_among}
use Rattle.framehop_dump_files.proofs.GatherLemmas.{prepended, items-are, read-more, read-refused, refusal-due, made-all, given-up}
use Rattle.framehop_dump_files.proofs.NoteLemmas.{segments-more, segments-refused, segments-none}
use Rattle.framehop_dump_files.proofs.coredump.note.read_notes.Goals as goal

pub returns-in_err-notes : goal.returns-in_err-notes
returns-in_err-notes c =
    let l = c.loop-segment in
    let file = c.args.file.now in
    let segments = c.args.segments.now in
    let is = items-are segments l.segment-index _ (search rules) in
    let p = err_from_is_err_and c.from_residual.result c.from_residual.ensures.1 in
    rw (p.1, p.2) (refusal-due _ c.in_err-notes.field-0.0 (read-refused _ _ _ c.in_err-notes.field-0.0 l.invariant.2
    (segments-refused file l.left (drop l.segment-index segments) (drop (l.segment-index + 1) segments) _ is c.in_err-notes.field-0.0 c.in_err-notes.ensures.exact)))

pub loop-segment-preserved : goal.loop-segment-preserved
loop-segment-preserved c =
    let l = c.loop-segment in
    let file = c.args.file.now in
    let segments = c.args.segments.now in
    let is = items-are segments l.segment-index _ (search rules) in
    let read = c.in_ok-notes.ensures.exact in (
      l.invariant.0 ++ read.0,
      read.2 l.invariant.0 l.invariant.1,
      read-more placed_view _ _ _ l.invariant.0 read.0 l.invariant.2
          (segments-more file l.left (drop l.segment-index segments) (drop (l.segment-index + 1) segments) _ is (map placed_view read.0) read.1)
          ∙ ap (λ bytes. prepended (map placed_view (l.invariant.0 ++ read.0)) (notes_among file bytes (drop (l.segment-index + 1) segments))) (sym (c.saturating_sub-left.ensures ∙ ap (λ size. l.left - size) c.notes_size.ensures)),
    )

pub returns-in-Some : goal.returns-in-Some
returns-in-Some c =
    let l = c.loop-segment in
    let segments = c.args.segments.now in
    let over : l.segment-index ≡ length segments = search rules in
    let none = segments-none c.args.file.now l.left (drop l.segment-index segments) (ap (λ i. drop i segments) over ∙ drop-length segments) in
    made-all placed_view _ _ l.invariant.0 l.notes c.in-Some.notes l.invariant.2 none l.invariant.1 c.in-Some.is

pub returns-in-None : goal.returns-in-None
returns-in-None c =
    let l = c.loop-segment in
    let segments = c.args.segments.now in
    let over : l.segment-index ≡ length segments = search rules in
    let none = segments-none c.args.file.now l.left (drop l.segment-index segments) (ap (λ i. drop i segments) over ∙ drop-length segments) in
    given-up _ _ (map placed_view l.invariant.0) l.invariant.2 none
