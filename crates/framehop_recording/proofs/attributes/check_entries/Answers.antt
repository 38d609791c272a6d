use Rattle.std.proofs.Common.{◌+◌, ◌-◌, arith}
use Rattle.std.proofs.lemmas.Result.{err_from_is_err_and}
use Rattle.framehop_recording.specs.Bytes.{offsets}
use Rattle.framehop_recording.specs.Attributes.{attribute_at, attribute_view}
use Rattle.framehop_recording.proofs.EachLemmas.{each-later-refused, each-later-read, each-first-refused, each-none-read, offsets-more, offsets-none}
use Rattle.framehop_recording.proofs.attributes.check_entries.Goals as goal

pub loop-left-preserved : goal.loop-left-preserved
loop-left-preserved c =
    let l = c.loop-left in
    let file = c.args.file.now in
    let size = c.args.size in
    let more = offsets-more l.at size l.left (omega (arith, c.loop-left-test.true)) in
    let read = c.in_ok-read_attribute.ensures.exact in (
      λ error e. l.invariant.0 error (each-later-refused (λ at. attribute_at file at size) l.at
          (offsets l.at size l.left) (offsets (l.at + size) size (l.left - 1))
          (attribute_view c.in_ok-read_attribute.field-0) error more read e),
      λ all. l.invariant.1 (each-later-read (λ at. attribute_at file at size) l.at (offsets l.at size l.left)
          (offsets (l.at + size) size (l.left - 1)) (attribute_view c.in_ok-read_attribute.field-0) more read all),
    )

pub returns-in_err-read_attribute : goal.returns-in_err-read_attribute
returns-in_err-read_attribute c =
    let l = c.loop-left in
    let file = c.args.file.now in
    let size = c.args.size in
    let more = offsets-more l.at size l.left (omega (arith, c.loop-left-test.true)) in
    let p = err_from_is_err_and c.from_residual.result c.from_residual.ensures.1 in
    rw (p.1, p.2) (l.invariant.0 c.in_err-read_attribute.field-0.0
    (each-first-refused (λ at. attribute_at file at size) l.at (offsets l.at size l.left)
    (offsets (l.at + size) size (l.left - 1)) c.in_err-read_attribute.field-0.0 more
    c.in_err-read_attribute.ensures.exact))

pub returns : goal.returns
returns c =
    let l = c.loop-left in
    let file = c.args.file.now in
    let size = c.args.size in
    l.invariant.1 (each-none-read (λ at. attribute_at file at size) (offsets l.at size l.left) (offsets-none l.at size l.left (omega (arith, c.loop-left-test.false))))
