use Rattle.std.proofs.Common.{◌≡◌, ◌<◌, ◌≤◌, true, not, List, [], ◌∷◌, ◌++◌, length, map, take, ◌-◌, sym, ◌∙◌, ap}
use Rattle.std.specs.Prelude.{is_some}
use Rattle.framehop_cfi.specs.RememberedCopies.{CopiedView, copied_view, is_shared}
use Rattle.framehop_cfi.proofs.SharedRules.{latest-of, latest-set, is_shared-last, kept-last, kept-view, some-shared}
use Rattle.framehop_cfi.proofs.remembered_copies.RememberedCopies.keep_rules.Goals as goal

pub returns-clause-kept : goal.returns-clause-kept
returns-clause-kept g c =
    let inside = c.self.inside in
    let latest = c.index_mut-latest.result.now in
    let rules = c.args.row.now.rules in
    let within : inside.count ≤ length inside.rows.items = rw (← inside.rows.ok.0) c.self.invariant.remembered in
    let some : 0 < inside.count = some-shared (λ row. copied_view row.row row.has_rules) inside.rows.items inside.count (rw c.self.view_is c.requires) in
    let split = latest-of (λ row. copied_view row.row row.has_rules) inside.rows.items inside.count latest some within c.index_mut-latest.ensures.value in
    let earlier : List CopiedView = map (λ row. copied_view row.row row.has_rules) (take (inside.count - 1) inside.rows.items) in
    let shared : not (is_some (copied_view latest.row latest.has_rules).rules) ≡ true =
    sym (is_shared-last earlier (copied_view latest.row latest.has_rules)) ∙ ap is_shared (sym split ∙ c.self.view_is) ∙ c.requires in
    rw (← c.self.view_is, c.in_ok-copy_rules.ensures.ok, split, kept-last rules earlier (copied_view latest.row latest.has_rules))
    (latest-set (λ row. copied_view row.row row.has_rules) inside.rows.items inside.count (record { row = record (latest.row) { rules = rules }; has_rules = true }) some within
    ∙ ap (λ view. earlier ++ view ∷ []) (kept-view latest.row latest.has_rules rules shared))
