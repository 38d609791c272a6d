use Rattle.std.proofs.Common.{◌≡◌, ◌++◌, take}
use Rattle.std.specs.String.{string_bytes}
use Rattle.framehop_folded.specs.FlameGraph.Names.{escaped}
use Rattle.framehop_folded.proofs.flame_graph.names.push_escaped.Given as goal

abbrev pub invariant-loop-character : goal.invariant-loop-character
invariant-loop-character l = string_bytes l.out ≡ string_bytes l.initial.out ++ escaped (take l.character-index l.characters)
