use Rattle.std.proofs.Common.{◌≤◌, ◌-◌, length, refl}
use Rattle.std.proofs.lemmas.List.{take-set}
use Rattle.framehop_cfi.specs.RememberedCopies.{copied_view}
use Rattle.framehop_cfi.proofs.SharedRules.{latest-of, some-unless}
use Rattle.framehop_cfi.proofs.remembered_copies.RememberedCopies.pop.Goals as goal
use Rattle.framehop_cfi.proofs.remembered_copies.RememberedCopies.pop.Goals.{then-latest, else-latest}

pub returns-clause-popped : goal.returns-clause-popped
returns-clause-popped g c =
    let inside = c.self.inside in
    let latest = c.index_mut-latest.result.now in
    let within : inside.count ≤ length inside.rows.items = rw (← inside.rows.ok.0) c.self.invariant.remembered in
    let split = latest-of (λ row. copied_view row.row row.has_rules) inside.rows.items inside.count latest
    (some-unless inside.count c.if-self-eq0.false) within c.index_mut-latest.ensures.value in
    elim c.if-latest.branch [
      | then-latest w ↦ (
        copied_view latest.row latest.has_rules,
        rw (← c.self.view_is, w.self-inside-is, take-set inside.rows.items (inside.count - 1) (record latest { row = w.swap.new.y })) split,
        rw (w.row-is, w.swap.ensures.x_after, w.if-latest.true) refl,
      )
      | else-latest w ↦ (
        copied_view latest.row latest.has_rules,
        rw (← c.self.view_is, w.self-inside-is, take-set inside.rows.items (inside.count - 1) latest) split,
        rw (w.row-is, w.set_cfa.ensures, w.cfa.ensures, w.if-latest.false) refl,
      )
    ]
