use Rattle.std.proofs.Common.{arith, ◌≡◌, ◌≤◌, get_or, take}
use Rattle.std.specs.Prelude.{max}
use Rattle.std.specs.List.{All}
use Rattle.std.proofs.lemmas.List.Elements.{All-more}
use Rattle.framehop_folded.proofs.ChangeLemmas.{deepest-more, no_change}
use Rattle.framehop_folded.proofs.flame_graph.changes.deepest.Goals as goal

pub loop-change-preserved : goal.loop-change-preserved
loop-change-preserved c =
    let changes = c.args.changes.now in
    let i = c.loop-change.change-index in
    let here : c.max-rows.result ≡ max (get_or changes i no_change).frame.depth c.loop-change.rows = c.max-rows.ensures in
    let more = deepest-more changes i no_change c.loop-change-test.true in
    let earlier : All (λ change. change.frame.depth ≤ c.max-rows.result) (take i changes) =
    (λ k d below. let le = c.loop-change.invariant.1 k d below in omega arith) in (
      omega (arith, here, more, c.loop-change.invariant.0),
      All-more (λ change. change.frame.depth ≤ c.max-rows.result) changes i no_change c.loop-change-test.true earlier (omega arith),
    )
