use Rattle.std.proofs.Common.{◌≡◌, ◌++◌, map, take}
use Rattle.framehop_explain.specs.Note.{printable}
use Rattle.framehop_explain.proofs.note.push_printed.Given as goal

abbrev pub invariant-loop-byte : goal.invariant-loop-byte
invariant-loop-byte l = l.out.items ≡ l.initial.out.items ++ map (printable l.c1) (take l.byte-index l.text)
