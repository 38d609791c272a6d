use Rattle.framehop_dwarf.proofs.Shortcuts.{last-start}
use Rattle.framehop_dwarf.proofs.index.last_start.Goals as goal

pub returns-in-Some : goal.returns-in-Some
returns-in-Some c = rw c.pair_of_key.ensures (last-start c.args.keys.now c.in-Some.last.now c.requires (c.in-Some.ensures.item.3.1 0))
