use Rattle.std.proofs.Common.{◌≡◌, drop}
use Rattle.framehop_explain.specs.Note.{has_c1_after}
use Rattle.framehop_explain.proofs.note.has_c1.Given as goal

abbrev pub invariant-loop-byte : goal.invariant-loop-byte
invariant-loop-byte l = has_c1_after 0 l.text ≡ has_c1_after l.previous (drop l.byte-index l.text)
