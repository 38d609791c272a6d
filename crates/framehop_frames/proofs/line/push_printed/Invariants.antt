use Rattle.std.proofs.Common.{◌≡◌, ◌++◌, take}
use Rattle.std.specs.List.{flat_map}
use Rattle.framehop_frames.specs.Line.{is_text, printed_byte}
use Rattle.framehop_frames.proofs.line.push_printed.Given as goal

abbrev pub invariant-loop-byte : goal.invariant-loop-byte
invariant-loop-byte l = l.line.items ≡ l.initial.line.items ++ flat_map (printed_byte (is_text l.part)) (take l.byte-index l.part)
