use Rattle.std.proofs.Common.{◌≢◌, rules, subst, sym, List, ℕ}
use Rattle.framehop_folded.specs.Laws.{lookup-insert_other}
use Rattle.framehop_folded.proofs.folded.Folded.add_stack.Goals as goal

pub returns-in_ok-insert-clause-others : goal.returns-in_ok-insert-clause-others
returns-in_ok-insert-clause-others c = λ other ne.
    let P : List ℕ → Type 0 = λ items. other ≢ items in
    let apart = subst P (sym c.in_ok-stack.ensures.items) ne in
    let a = lookup-insert_other other c.in_ok-stack.stack 0 apart c.args.self.now.counts.entries in
    search (rules, a)
