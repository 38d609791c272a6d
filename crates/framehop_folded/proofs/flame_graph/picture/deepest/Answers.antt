use Rattle.std.proofs.Common.{arith, ◌≡◌, ◌≤◌, get_or, take}
use Rattle.std.specs.Prelude.{max}
use Rattle.std.specs.List.{All}
use Rattle.std.proofs.lemmas.List.Elements.{All-more}
use Rattle.framehop_folded.proofs.PictureLemmas.{deepest-more, no_box}
use Rattle.framehop_folded.proofs.flame_graph.picture.deepest.Goals as goal

pub loop-frame-preserved : goal.loop-frame-preserved
loop-frame-preserved c =
    let frames = c.args.boxes.now in
    let i = c.loop-frame.frame-index in
    let here : c.max-rows.result ≡ max (get_or frames i no_box).depth c.loop-frame.rows = c.max-rows.ensures in
    let more = deepest-more frames i no_box c.loop-frame-test.true in
    let earlier : All (λ frame. frame.depth ≤ c.max-rows.result) (take i frames) =
    (λ k d below. let le = c.loop-frame.invariant.1 k d below in omega arith) in (
      omega (arith, here, more, c.loop-frame.invariant.0),
      All-more (λ frame. frame.depth ≤ c.max-rows.result) frames i no_box c.loop-frame-test.true earlier (omega arith),
    )
