use Rattle.std.proofs.Common.{◌≡◌, ◌<◌, ◌≤◌, ◌++◌, ◌∷◌, [], ◌∙◌, ap, sym, refl, rules, map, Ok, Err, length, get_or}
use Rattle.framehop_walk.specs.Refusals.{refusal_text}
use Rattle.framehop_walk.specs.Sections.{read_section, bytes_of_entry, entry_view, entries_view}
use Rattle.framehop_walk.proofs.Items.{each-more, each-refused, each-end}
use Rattle.framehop_walk.proofs.Tables.{entries-push, section-is_ok, refused-same}
use Rattle.framehop_walk.proofs.sections.read_list.Goals as goal

pub loop-item-preserved : goal.loop-item-preserved
loop-item-preserved c =
    let done = map bytes_of_entry (entries_view c.loop-item.sections.items) in
    let within : c.loop-item.item-index < length c.args.items.now.items = rw c.deref-item-items.ensures.value at c.loop-item-test.true in
    let item : c.item-item.result ≡ get_or c.args.items.now.items c.loop-item.item-index c.item-item.result = rw c.deref-item-items.ensures.value at c.item-item.is in
    let given = c.in_ok-read_section.ensures done c.loop-item.invariant.names (section-is_ok c.in_ok-read_section.field-0 (Ok c.in_ok-read_section.field-0) refl) in
    let grown : map bytes_of_entry (entries_view c.push.new.self.items) ≡ done ++ bytes_of_entry (entry_view c.in_ok-read_section.field-0) ∷ [] =
    ap (λ sections. map bytes_of_entry (entries_view sections)) c.in_ok-push.ensures.items ∙ entries-push c.loop-item.sections.items c.in_ok-read_section.field-0 in
    record {
      reading = rw grown (c.loop-item.invariant.reading
          ∙ each-more read_section done c.args.items.now.items c.loop-item.item-index c.item-item.result (bytes_of_entry (entry_view c.in_ok-read_section.field-0)) within item (sym given.0));
      names = rw grown given.1;
    }

pub returns-in_err-read_section : goal.returns-in_err-read_section
returns-in_err-read_section c =
    let done = map bytes_of_entry (entries_view c.loop-item.sections.items) in
    let within : c.loop-item.item-index < length c.args.items.now.items = rw c.deref-item-items.ensures.value at c.loop-item-test.true in
    let item : c.item-item.result ≡ get_or c.args.items.now.items c.loop-item.item-index c.item-item.result = rw c.deref-item-items.ensures.value at c.item-item.is in
    let same : c.from_residual-in_err-read_section.result ≡ Err c.in_err-read_section.field-0.0 = search rules in
    rw same (λ other.
    let given = c.in_err-read_section.ensures done c.loop-item.invariant.names
    (λ out. other (refused-same c.in_err-read_section.field-0.0 (Err c.in_err-read_section.field-0.0)
    (Err c.in_err-read_section.field-0.0) refl refl out)) in
    sym (c.loop-item.invariant.reading
    ∙ each-refused read_section done c.args.items.now.items c.loop-item.item-index c.item-item.result (refusal_text c.in_err-read_section.field-0.0) within item (sym given.0)))

pub returns : goal.returns
returns c =
    let past : length c.args.items.now.items ≤ c.loop-item.item-index = rw c.deref-item-items.ensures.value at c.loop-item-test.false in
    λ other. sym (c.loop-item.invariant.reading
    ∙ each-end read_section (map bytes_of_entry (entries_view c.loop-item.sections.items)) c.args.items.now.items c.loop-item.item-index past)
