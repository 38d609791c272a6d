use Rattle.std.proofs.Common.{◌≡◌, ◌++◌, append_assoc, ap, ◌∙◌}
use Rattle.std.specs.Prelude.{codes}
use Rattle.std.specs.Fmt.{decimal}
use Rattle.std.specs.String.{string_bytes}
use Rattle.framehop_folded.specs.FlameGraph.Boxes.{boxed}
use Rattle.framehop_folded.specs.FlameGraph.Names.{colour_of}
use Rattle.framehop_folded.specs.FlameGraph.Picture.{rectangle_of, span_of}
use Rattle.framehop_folded.proofs.flame_graph.picture.push_rectangle.Goals as goal

pub returns : goal.returns
unfolding rectangle_of
returns c =
    let first : string_bytes c.push_str.new.self ≡ string_bytes c.args.out.now ++ codes "<rect" = c.in_ok-push_str.ensures.bytes in
    let span : string_bytes c.push_span.new.out ≡ string_bytes c.push_str.new.self ++ span_of c.args.total (boxed c.args.frame) = c.in_ok-push_span.ensures in
    let text : string_bytes c.in_ok-text.text ≡ codes " y=\"" ++ (decimal c.args.top ++ codes "\" height=\"15\" fill=\"") = c.in_ok-text.ensures.ok in
    let second : string_bytes c.push_str-2.new.self ≡ string_bytes c.push_span.new.out ++ string_bytes c.in_ok-text.text =
    c.in_ok-push_str-2.ensures.bytes ∙ ap (λ bytes. string_bytes c.push_span.new.out ++ bytes) c.as_str.ensures.value in
    let colour : string_bytes c.push_colour.new.out ≡ string_bytes c.push_str-2.new.self ++ colour_of c.args.frame.name.now = c.in_ok-push_colour.ensures in
    let third : string_bytes c.push_str-3.new.self ≡ string_bytes c.push_colour.new.out ++ codes "\"/>" = c.in_ok-push_str-3.ensures.bytes in
    rw (third, colour, second, span, first, text) (simp append_assoc)
