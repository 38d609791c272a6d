use Rattle.std.proofs.Common.{◌≡◌, drop}
use Rattle.serde_json.specs.View.{items_view, members_view}
use Rattle.framehop_walk.specs.Numbers.{any_bad_item, any_bad_member}
use Rattle.framehop_walk.proofs.fields.+has_bad_number.Given as goal

abbrev pub invariant-any_bad_item-loop-item : goal.invariant-any_bad_item-loop-item
invariant-any_bad_item-loop-item l = any_bad_item (items_view l.item-items) ≡ any_bad_item (items_view (drop l.item-index l.item-items))

abbrev pub invariant-any_bad_member-loop-name : goal.invariant-any_bad_member-loop-name
invariant-any_bad_member-loop-name l = any_bad_member (members_view l.members.entries) ≡ any_bad_member (members_view l._name-iterator)
