use Rattle.std.proofs.Common.{◌≡◌, true, take}
use Rattle.std.specs.List.{list_all}
use Rattle.framehop_folded.specs.Text.{is_text_byte}
use Rattle.framehop_folded.proofs.text.is_text.Given as goal

abbrev pub invariant-loop-byte : goal.invariant-loop-byte
invariant-loop-byte l = list_all is_text_byte (take l.byte-index (take 4096 l.bytes)) ≡ true
