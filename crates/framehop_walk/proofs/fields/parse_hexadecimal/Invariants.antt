use Rattle.framehop_walk.proofs.Hexadecimal.{SoFar}
use Rattle.framehop_walk.proofs.fields.parse_hexadecimal.Given as goal

abbrev pub invariant-loop-byte : goal.invariant-loop-byte
invariant-loop-byte l = SoFar l.bytes l.byte-index l.number
