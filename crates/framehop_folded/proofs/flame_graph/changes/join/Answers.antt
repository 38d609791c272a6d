use Rattle.std.proofs.Common.{◌++◌, ◌∷◌, ◌∙◌, [], arith, ap, sym, get_or}
use Rattle.std.proofs.lemmas.List.{take_all}
use Rattle.framehop_folded.specs.declared.flame_graph.changes.ChangedBox.{ChangedBox}
use Rattle.framehop_folded.specs.FlameGraph.Changes.{joined}
use Rattle.framehop_folded.proofs.ChangeLemmas.{joined-more, joined-length}
use Rattle.framehop_folded.proofs.PictureLemmas.{no_box}
use Rattle.framehop_folded.proofs.flame_graph.changes.join.Goals as goal

pub loop-at-preserved : goal.loop-at-preserved
loop-at-preserved c =
    let frames = c.args.boxes.now in
    let befores = c.args.before.now in
    let at = c.loop-at.at in
    let change : ChangedBox = record { frame = get_or frames at no_box; before = (get_or befores at no_box).count } in
    c.in_ok-push.ensures.items ∙ ap (λ items. items ++ change ∷ []) c.loop-at.invariant
    ∙ sym (joined-more frames befores at c.requires c.loop-at-test.true)

pub returns : goal.returns
returns c =
    let frames = c.args.boxes.now in
    let befores = c.args.before.now in
    let size = joined-length frames befores c.requires in
    c.loop-at.invariant ∙ take_all c.loop-at.at (joined frames befores) (omega (arith, size, c.loop-at-test.false))
