use Rattle.std.proofs.Common.{◌≤◌, inr, arith}
use Rattle.std.proofs.lemmas.Grind.{common_steps}
use Rattle.framehop_processes.proofs.CodeMapLemmas.{none-over, not-over}
use Rattle.framehop_processes.proofs.code_map.number_at.Goals as goal

pub returns-in-Some : goal.returns-in-Some
returns-in-Some c =
    let range = c.range.ensures.in_range tt in
    let key = c.in-Some.field-0-0.now in
    let last = range.3 _ _ c.in-Some.ensures.steps in
    let greatest = range.4 _ _ c.in-Some.ensures.steps in
    let low : key ≤ c.args.address = grind (arith, common_steps, last) in
    inr (key, low, last.1, λ above higher up. none-over c.args.by_address.now key above higher (greatest above (tt, not-over above c.args.address up)))
