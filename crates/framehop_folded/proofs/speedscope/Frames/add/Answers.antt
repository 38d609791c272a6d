use Rattle.std.proofs.Common.{◌≡◌, ◌∙◌, ap, sym, length, rules, false}
use Rattle.std.specs.Prelude.{is_some}
use Rattle.framehop_folded.specs.Speedscope.{number_in}
use Rattle.framehop_folded.proofs.SpeedscopeLemmas.{added, count_of}
use Rattle.framehop_folded.proofs.speedscope.Frames.add.Goals as goal

pub returns : goal.returns
returns c = λ names are.
    let many : c.len-number.result ≡ length c.args.self.now.list.items = search rules in
    let absent : is_some (number_in names c.args.name.now) ≡ false =
    ap is_some (sym (are.numbers c.args.name.now)) ∙ sym c.contains_key.ensures ∙ c.if-contains_key.false in
    added names c.args.name.now c.args.self.now (record { numbers = c.insert.new.self; list = c.push.new.self }) c.in_ok-name.name c.in_ok-frame.frame
    c.len-number.result are absent c.in_ok-name.ensures.items (many ∙ count_of names c.args.self.now are)
    c.in_ok-insert.ensures.entries c.in_ok-insert.ensures.updates.1 c.in_ok-push.ensures.items c.in_ok-frame.ensures
