use Rattle.std.proofs.Common.{◌≡◌, ◌∙◌, sym, true, false, rules, Err}
use Rattle.std.specs.List.{list_any}
use Rattle.serde_json.specs.View.{view}
use Rattle.framehop_bytes.specs.SectionTable.{is_called}
use Rattle.framehop_walk.specs.Refusals.{refusal_text}
use Rattle.framehop_walk.proofs.Tables.{read_section-new, read_section-twice, read_section-refused, names-after, present, absent}
use Rattle.framehop_walk.proofs.sections.read_section.Goals as goal

pub returns-in_err-name : goal.returns-in_err-name
returns-in_err-name c = λ entries names other.
    let same : c.from_residual.result ≡ Err c.in_err-name.field-0.0 = search rules in
    rw same (sym (read_section-refused entries (view c.args.section.now) (refusal_text c.in_err-name.field-0.0) (sym c.in_err-name.ensures)), tt)

pub returns-then-not-branch : goal.returns-then-not-branch
returns-then-not-branch c = λ entries names other.
    let twice : list_any (is_called c.in_ok-name.name.now) entries ≡ true = sym (names c.in_ok-name.name) ∙ present c.in_ok-insert.field-0 _ c.in_ok-insert.ensures.added (search rules) in
    (sym (read_section-twice entries (view c.args.section.now) c.in_ok-name.name.now (sym c.in_ok-name.ensures) twice), tt)

pub returns : goal.returns
returns c = λ entries names.
    let fresh : list_any (is_called c.in_ok-name.name.now) entries ≡ false = sym (names c.in_ok-name.name) ∙ absent c.in_ok-insert.field-0 _ c.in_ok-insert.ensures.added (search rules) in
    λ other. (
      c.read_contents.ensures other
          ∙ sym (read_section-new entries (view c.args.section.now) c.in_ok-name.name.now (sym c.in_ok-name.ensures) fresh),
      names-after c.args.names.now _ entries c.in_ok-name.name (view c.args.section.now) c.read_contents.result names c.in_ok-insert.ensures.updates.0 c.read_contents.ensures,
    )
