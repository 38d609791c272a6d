use Rattle.std.proofs.Common.{append_assoc}
use Rattle.framehop_folded.specs.FlameGraph.Picture.{opening_of}
use Rattle.framehop_folded.proofs.flame_graph.picture.push_opening.Goals as goal

pub returns : goal.returns
unfolding opening_of
returns c =
    let first = c.in_ok-push_str.ensures.bytes in
    let second = c.in_ok-push_str-2.ensures.bytes in
    let third = c.in_ok-push_str-3.ensures.bytes in
    let text = c.as_str.ensures.value in
    let made = c.in_ok-text.ensures.ok in
    rw (third, second, first, text, made) (simp append_assoc)
