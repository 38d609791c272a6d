use Rattle.std.proofs.Common.{◌≡◌, [], drop}
use Rattle.serde_json.specs.View.{items_view}
use Rattle.framehop_walk.specs.Fields.{each}
use Rattle.framehop_walk.specs.Commands.{read_word}
use Rattle.framehop_walk.proofs.commands.read_words.Given as goal

abbrev pub invariant-loop-item : goal.invariant-loop-item
invariant-loop-item l =
    each read_word [] (items_view l.items.items) ≡ each read_word l.words.items (items_view (drop l.item-index l.items.items))
