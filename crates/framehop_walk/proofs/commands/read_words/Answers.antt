use Rattle.std.proofs.Common.{◌≡◌, ◌<◌, ◌≤◌, ◌∙◌, ap, sym, codes, Ok, Err, length, get_or}
use Rattle.serde_json.specs.View.{view}
use Rattle.framehop_walk.specs.Refusals.{bad_field}
use Rattle.framehop_walk.specs.Fields.{required}
use Rattle.framehop_walk.specs.Commands.{read_word}
use Rattle.framehop_walk.proofs.Items.{each-more, each-refused, each-end}
use Rattle.framehop_walk.proofs.commands.read_words.Goals as goal

pub loop-item-preserved : goal.loop-item-preserved
loop-item-preserved c =
    let within : c.loop-item.item-index < length c.args.items.now.items = rw c.deref-item-items.ensures.value at c.loop-item-test.true in
    let item : c.item-item.result ≡ get_or c.args.items.now.items c.loop-item.item-index c.item-item.result = rw c.deref-item-items.ensures.value at c.item-item.is in
    let reads : read_word c.loop-item.words.items (view c.item-item.result) ≡ Ok c.in-Some.word = ap (required (codes "words")) (sym c.in-Some.ensures) in
    rw c.in_ok-push.ensures.items
    (c.loop-item.invariant
    ∙ each-more read_word c.loop-item.words.items c.args.items.now.items c.loop-item.item-index c.item-item.result c.in-Some.word within item reads)

pub returns-in_default : goal.returns-in_default
returns-in_default c =
    let within : c.loop-item.item-index < length c.args.items.now.items = rw c.deref-item-items.ensures.value at c.loop-item-test.true in
    let item : c.item-item.result ≡ get_or c.args.items.now.items c.loop-item.item-index c.item-item.result = rw c.deref-item-items.ensures.value at c.item-item.is in
    let reads : read_word c.loop-item.words.items (view c.item-item.result) ≡ Err (bad_field (codes "words")) = ap (required (codes "words")) (sym c.in_default.ensures) in
    λ other. sym (c.loop-item.invariant
    ∙ each-refused read_word c.loop-item.words.items c.args.items.now.items c.loop-item.item-index c.item-item.result (bad_field (codes "words")) within item reads)

pub returns : goal.returns
returns c =
    let past : length c.args.items.now.items ≤ c.loop-item.item-index = rw c.deref-item-items.ensures.value at c.loop-item-test.false in
    λ other. sym (c.loop-item.invariant ∙ each-end read_word c.loop-item.words.items c.args.items.now.items c.loop-item.item-index past)
