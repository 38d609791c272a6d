use Rattle.std.proofs.Common.{◌≡◌, ◌++◌, ◌∷◌, [], map, inr, arith, rules}
use Rattle.std.proofs.lemmas.Result.{err_from_is_err_and}
use Rattle.framehop_recording.specs.EventNames.{event_names_from}
use Rattle.framehop_recording.proofs.EachLemmas.{prepended-none}
use Rattle.framehop_recording.proofs.EventNameLemmas.{names-pushed, names-refused, names-whole}
use Rattle.framehop_recording.proofs.event_names.read_names_from.Goals as goal

pub loop-left-init : goal.loop-left-init
loop-left-init c =
    let none : c.new-names.result.items ≡ [] = search rules in
    rw none (prepended-none (event_names_from c.args.bytes.now c.args.size c.args.short c.args.start c.args.count), c.requires.within)

pub loop-left-preserved : goal.loop-left-preserved
loop-left-preserved c =
    let l = c.loop-left in
    let pushed : c.push.new.self.items ≡ l.names.items ++ c.in_ok-name.name ∷ [] = search rules in (
      names-pushed c.args.bytes.now c.args.size c.args.short (λ name. name.now)
          (event_names_from c.args.bytes.now c.args.size c.args.short c.args.start c.args.count) l.names.items c.push.new.self.items
          c.in_ok-name.name l.at l.left c.in_ok-name.next l.invariant.0 (omega (arith, c.loop-left-test.true)) c.in_ok-name.ensures.exact pushed,
      c.in_ok-name.ensures.within,
    )

pub returns-in_err-name : goal.returns-in_err-name
returns-in_err-name c =
    let l = c.loop-left in
    let p = err_from_is_err_and c.from_residual.result c.from_residual.ensures.1 in
    rw (p.1, p.2) (record {
      exact = inr (names-refused c.args.bytes.now c.args.size c.args.short
          (event_names_from c.args.bytes.now c.args.size c.args.short c.args.start c.args.count) (map (λ name. name.now) l.names.items) l.at l.left
          c.in_err-name.field-0.0 l.invariant.0 (omega (arith, c.loop-left-test.true)) c.in_err-name.ensures.exact);
    })

pub returns : goal.returns
returns c =
    let l = c.loop-left in
    record {
      exact = names-whole c.args.bytes.now c.args.size c.args.short
          (event_names_from c.args.bytes.now c.args.size c.args.short c.args.start c.args.count) (map (λ name. name.now) l.names.items) l.at l.left
          l.invariant.0 (omega (arith, c.loop-left-test.false));
    }
