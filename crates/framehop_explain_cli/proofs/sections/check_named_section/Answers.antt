use Rattle.std.proofs.Common.{◌≡◌, ◌∙◌, ap, sym, true, false, rules, Err}
use Rattle.std.specs.List.{list_any}
use Rattle.std.specs.Str.{bytes_eq}
use Rattle.framehop_explain_cli.proofs.FaultLemmas.{names-more, present, absent, always}
use Rattle.framehop_explain_cli.proofs.sections.check_named_section.Goals as goal

pub returns-then-not-branch : goal.returns-then-not-branch
returns-then-not-branch c = λ before has.
    let twice : list_any (bytes_eq c.args.name.now) before ≡ true = sym (has c.args.name) ∙ present c.in_ok-insert.field-0 _ c.in_ok-insert.ensures.added (search rules) in
    rw twice (ap (λ fault. Err fault) c.of.ensures, tt)

pub returns : goal.returns
returns c = λ before has.
    let fresh : list_any (bytes_eq c.args.name.now) before ≡ false = sym (has c.args.name) ∙ absent c.in_ok-insert.field-0 _ c.in_ok-insert.ensures.added (search rules) in
    let named = names-more c.args.names.now _ before c.args.name has c.in_ok-insert.ensures.updates.0 in
    rw fresh (c.check_contents.ensures, always c.check_contents.result named)
