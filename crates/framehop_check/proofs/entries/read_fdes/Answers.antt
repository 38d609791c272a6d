use Rattle.std.proofs.Common.{[], ◌∷◌, ◌++◌, sym, ap, ◌∙◌}
use Rattle.std.proofs.lemmas.List.{append-nil}
use Rattle.framehop_cfi.specs.Section.{Section}
use Rattle.framehop_check.specs.declared.entries.Entry.{Entry}
use Rattle.framehop_check.specs.Entries.{at_end, entry_of, with_entry, one_if_unreadable}
use Rattle.framehop_check.proofs.EntryLemmas.{entries-push, one-fde, no-fde, one-unreadable, none-unreadable}
use Rattle.framehop_check.proofs.entries.read_fdes.Goals as goal

pub loop-at-preserved-in-Continue-branch-3 : goal.loop-at-preserved-in-Continue-branch-3
loop-at-preserved-in-Continue-branch-3 c =
    let inv = c.loop-at.invariant in
    let entry = entry_of c.args.section.now c.in-Some.place in
    let is = sym c.in_ok-fde.ensures.exact ∙ c.in-Fde.is in (
      inv.0 ++ entry ∷ [],
      λ entries rest. entries-push c.args.section.now inv.0 entries entry (inv.1 _ (c.in-Some.ensures.some entries rest)),
      one-fde inv.0 entry c.in-Fde.fde _ _ is inv.2 c.in_ok-push-in-Fde.ensures.items,
      none-unreadable inv.0 entry _ (ap one_if_unreadable is) inv.3,
      c.read_entry.ensures.kept ∙ inv.4,
    )

pub loop-at-preserved-in-Unreadable : goal.loop-at-preserved-in-Unreadable
loop-at-preserved-in-Unreadable c =
    let inv = c.loop-at.invariant in
    let entry = entry_of c.args.section.now c.in-Some.place in
    let is = sym c.in_ok-fde.ensures.exact ∙ c.in-Unreadable.is in (
      inv.0 ++ entry ∷ [],
      λ entries rest. entries-push c.args.section.now inv.0 entries entry (inv.1 _ (c.in-Some.ensures.some entries rest)),
      no-fde inv.0 entry _ (ap (λ (e : Entry). with_entry e []) is) inv.2,
      one-unreadable inv.0 entry _ _ (ap one_if_unreadable is) inv.3 c.saturating_add.ensures,
      c.read_entry.ensures.kept ∙ inv.4,
    )

pub loop-at-preserved : goal.loop-at-preserved
loop-at-preserved c =
    let inv = c.loop-at.invariant in
    let entry = entry_of c.args.section.now c.in-Some.place in
    let is = sym c.in_ok-fde.ensures.exact ∙ c.in-Other.is in (
      inv.0 ++ entry ∷ [],
      λ entries rest. entries-push c.args.section.now inv.0 entries entry (inv.1 _ (c.in-Some.ensures.some entries rest)),
      no-fde inv.0 entry _ (ap (λ (e : Entry). with_entry e []) is) inv.2,
      none-unreadable inv.0 entry _ (ap one_if_unreadable is) inv.3,
      c.read_entry.ensures.kept ∙ inv.4,
    )

pub returns : goal.returns
returns c =
    let inv = c.loop-at.invariant in
    let bytes = ap (λ (s : Section). s.bytes) c.section.view_is in
    let past = rw bytes at c.loop-at-test.false in
    (inv.0, rw append-nil at (inv.1 [] (at_end past)), inv.2, inv.3)
