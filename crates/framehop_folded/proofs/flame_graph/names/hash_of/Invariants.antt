use Rattle.std.proofs.Common.{◌≡◌, take}
use Rattle.framehop_folded.specs.FlameGraph.Names.{hash_of}
use Rattle.framehop_folded.proofs.flame_graph.names.hash_of.Given as goal

abbrev pub invariant-loop-byte : goal.invariant-loop-byte
invariant-loop-byte l = l.hash ≡ hash_of (take l.byte-index l.name)
