use Rattle.framehop_cfi.specs.RememberedCopies.{copied_view}
use Rattle.framehop_cfi.proofs.SharedRules.{latest-of, is_shared-last, shared-view}
use Rattle.framehop_cfi.proofs.remembered_copies.RememberedCopies.is_shared.Goals as goal

pub returns-then-self-gt0 : goal.returns-then-self-gt0
returns-then-self-gt0 g c =
    let inside = c.self.inside in
    let latest = c.index.result.now in
    rw (
      ← c.self.view_is,
      latest-of (λ row. copied_view row.row row.has_rules) inside.rows.items inside.count latest c.if-self-gt0.true
          (rw (← inside.rows.ok.0) c.self.invariant.remembered) c.index.ensures,
      is_shared-last _ _,
    )
    (shared-view latest.row latest.has_rules)
