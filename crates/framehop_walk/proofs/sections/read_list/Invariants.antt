use Rattle.std.proofs.Common.{◌≡◌, [], drop, map}
use Rattle.serde_json.specs.View.{items_view}
use Rattle.framehop_walk.specs.Fields.{each}
use Rattle.framehop_walk.specs.Sections.{entries_view, bytes_of_entry, read_section, HasNames}
use Rattle.framehop_walk.proofs.sections.read_list.Given as goal

abbrev pub invariant-loop-item : goal.invariant-loop-item
invariant-loop-item l = record {
  reading : each read_section [] (items_view l.items.items)
      ≡ each read_section (map bytes_of_entry (entries_view l.sections.items)) (items_view (drop l.item-index l.items.items));
  names : HasNames l.names (map bytes_of_entry (entries_view l.sections.items));
}
