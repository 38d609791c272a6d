use Rattle.std.proofs.Common.{◌≡◌, ◌+◌, ◌-◌, ◌++◌, ◌∷◌, [], map, inr, arith, rules}
use Rattle.std.proofs.lemmas.Result.{err_from_is_err_and}
use Rattle.framehop_recording.specs.Bytes.{offsets, each_of}
use Rattle.framehop_recording.specs.Attributes.{attribute_at, attribute_view}
use Rattle.framehop_recording.proofs.EachLemmas.{each-pushed, each-refused, each-whole, offsets-more, offsets-none}
use Rattle.framehop_recording.proofs.attributes.read_entries.Goals as goal

pub loop-left-preserved : goal.loop-left-preserved
loop-left-preserved c =
    let l = c.loop-left in
    let file = c.args.file.now in
    let size = c.args.size in
    let pushed : c.push.new.self.items ≡ l.attributes.items ++ c.in_ok-attribute.attribute ∷ [] = search rules in
    each-pushed (λ at. attribute_at file at size) attribute_view (each_of (λ at. attribute_at file at size) (offsets c.args.start size c.args.count))
    l.attributes.items c.push.new.self.items c.in_ok-attribute.attribute l.at (offsets l.at size l.left) (offsets (l.at + size) size (l.left - 1))
    l.invariant (offsets-more l.at size l.left (omega (arith, c.loop-left-test.true))) c.in_ok-attribute.ensures.exact pushed

pub returns-in_err-attribute : goal.returns-in_err-attribute
returns-in_err-attribute c =
    let l = c.loop-left in
    let file = c.args.file.now in
    let size = c.args.size in
    let p = err_from_is_err_and c.from_residual.result c.from_residual.ensures.1 in
    rw (p.1, p.2) (record {
      exact = inr (each-refused (λ at. attribute_at file at size) (each_of (λ at. attribute_at file at size) (offsets c.args.start size c.args.count))
          (map attribute_view l.attributes.items) l.at (offsets l.at size l.left) (offsets (l.at + size) size (l.left - 1)) c.in_err-attribute.field-0.0
          l.invariant (offsets-more l.at size l.left (omega (arith, c.loop-left-test.true))) c.in_err-attribute.ensures.exact);
    })

pub returns : goal.returns
returns c =
    let l = c.loop-left in
    let file = c.args.file.now in
    let size = c.args.size in
    record {
      exact = each-whole (λ at. attribute_at file at size) (each_of (λ at. attribute_at file at size) (offsets c.args.start size c.args.count))
          (map attribute_view l.attributes.items) (offsets l.at size l.left) l.invariant (offsets-none l.at size l.left (omega (arith, c.loop-left-test.false)));
    }
