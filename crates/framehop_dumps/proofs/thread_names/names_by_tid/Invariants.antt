use Rattle.std.proofs.Common.{map, take}
use Rattle.framehop_dumps.specs.ThreadNames.{named_view, HasNames}
use Rattle.framehop_dumps.proofs.thread_names.names_by_tid.Given as goal

abbrev pub invariant-loop-named : goal.invariant-loop-named
invariant-loop-named l = HasNames (map named_view (take l.named-index l.listed)) l.by_tid
