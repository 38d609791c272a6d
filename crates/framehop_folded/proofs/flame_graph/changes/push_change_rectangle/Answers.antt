use Rattle.std.proofs.Common.{◌≡◌, ◌++◌, append_assoc, ap, ◌∙◌}
use Rattle.std.specs.Prelude.{codes}
use Rattle.std.specs.Fmt.{decimal}
use Rattle.std.specs.String.{string_bytes}
use Rattle.framehop_folded.specs.FlameGraph.Boxes.{boxed}
use Rattle.framehop_folded.specs.FlameGraph.Changes.{change_rectangle_of, change_colour}
use Rattle.framehop_folded.specs.FlameGraph.Numbers.{share}
use Rattle.framehop_folded.specs.FlameGraph.Picture.{span_of}
use Rattle.framehop_folded.proofs.flame_graph.changes.push_change_rectangle.Goals as goal

pub returns : goal.returns
unfolding change_rectangle_of
returns c =
    let totals = c.args.totals in
    let change = c.args.change in
    let first : string_bytes c.push_str.new.self ≡ string_bytes c.args.out.now ++ codes "<rect" = c.in_ok-push_str.ensures.bytes in
    let span : string_bytes c.push_span.new.out ≡ string_bytes c.push_str.new.self ++ span_of totals.now (boxed change.frame) = c.in_ok-push_span.ensures in
    let text : string_bytes c.in_ok-text.text ≡ codes " y=\"" ++ (decimal c.args.top ++ codes "\" height=\"15\" fill=\"") = c.in_ok-text.ensures.ok in
    let second : string_bytes c.push_str-2.new.self ≡ string_bytes c.push_span.new.out ++ string_bytes c.in_ok-text.text =
    c.in_ok-push_str-2.ensures.bytes ∙ ap (λ bytes. string_bytes c.push_span.new.out ++ bytes) c.as_str.ensures.value in
    let before : c.share-before.result ≡ share change.before 1000000000 totals.before = c.share-before.ensures.share in
    let now : c.share-now.result ≡ share change.frame.count 1000000000 totals.now = c.share-now.ensures.share in
    let colour : string_bytes c.push_change_colour.new.out ≡ string_bytes c.push_str-2.new.self
    ++ change_colour (share change.before 1000000000 totals.before) (share change.frame.count 1000000000 totals.now) =
    c.in_ok-push_change_colour.ensures
    ∙ ap (λ part. string_bytes c.push_str-2.new.self ++ change_colour part c.share-now.result) before
    ∙ ap (λ part. string_bytes c.push_str-2.new.self ++ change_colour (share change.before 1000000000 totals.before) part) now in
    let third : string_bytes c.push_str-3.new.self ≡ string_bytes c.push_change_colour.new.out ++ codes "\"/>" = c.in_ok-push_str-3.ensures.bytes in
    rw (third, colour, second, span, first, text) (simp append_assoc)
