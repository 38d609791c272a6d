use Rattle.std.proofs.Common.{append_assoc}
use Rattle.framehop_folded.specs.FlameGraph.Picture.{heading_of}
use Rattle.framehop_folded.proofs.flame_graph.picture.push_heading.Goals as goal

pub returns : goal.returns
unfolding heading_of
returns c =
    let first = c.in_ok-push_str.ensures.bytes in
    let title = c.in_ok-push_cut.ensures in
    let second = c.in_ok-push_str-2.ensures.bytes in
    rw (second, title, first) (simp append_assoc)
