use Rattle.std.proofs.Common.{◌≡◌, ◌∙◌, true, false, ap, sym}
use Rattle.std.specs.Prelude.{option_map}
use Rattle.std.specs.List.{find, list_any}
use Rattle.framehop_memory.specs.SizedRange.{has_sized, range_in}
use Rattle.framehop_memory.proofs.RangeTreeLemmas.{find-in-first, find-in-second}
use Rattle.framehop_memory.proofs.range_tree.RangeTree.+first_with.Goals as goal

pub returns-then-have : goal.returns-then-have
returns-then-have t c =
    let p = has_sized c.args.address c.args.size in
    let first = c.in-Halves.first.value in
    let second = c.in-Halves.second.value in
    let halved = rw c.in-Halves.is at c.self.invariant in
    let some : list_any p first ≡ true = sym (halved.2 c.args.address c.args.size) ∙ sym c.have.ensures ∙ c.if-have.true in
    let all = rw c.in-Halves.is at c.self.view_is in
    c.first_with.ensures ∙ ap (λ ranges. option_map range_in (find p ranges)) c.deref.ensures ∙ ap (option_map range_in) (sym (find-in-first p first second some) ∙ ap (find p) all)

pub returns-else-have : goal.returns-else-have
returns-else-have t c =
    let p = has_sized c.args.address c.args.size in
    let first = c.in-Halves.first.value in
    let second = c.in-Halves.second.value in
    let halved = rw c.in-Halves.is at c.self.invariant in
    let none : list_any p first ≡ false = sym (halved.2 c.args.address c.args.size) ∙ sym c.have.ensures ∙ c.if-have.false in
    let all = rw c.in-Halves.is at c.self.view_is in
    c.first_with-else-have.ensures ∙ ap (λ ranges. option_map range_in (find p ranges)) c.deref-else-have.ensures ∙ ap (option_map range_in) (sym (find-in-second p first second none) ∙ ap (find p) all)
