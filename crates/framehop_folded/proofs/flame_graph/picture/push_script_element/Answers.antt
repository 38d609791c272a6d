use Rattle.std.proofs.Common.{append_assoc}
use Rattle.framehop_folded.specs.FlameGraph.Picture.{script_element_of}
use Rattle.framehop_folded.proofs.flame_graph.picture.push_script_element.Goals as goal

pub returns : goal.returns
unfolding script_element_of
returns c =
    let first = c.in_ok-push_str.ensures.bytes in
    let second = c.in_ok-push_str-2.ensures.bytes in
    let third = c.in_ok-push_str-3.ensures.bytes in
    rw (third, second, first) (simp append_assoc)
