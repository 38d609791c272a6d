use Rattle.std.proofs.Common.{◌≡◌, ◌≤◌, ◌+◌, take}
use Rattle.std.specs.Prelude.{◌==◌}
use Rattle.std.specs.List.{count_by}
use Rattle.framehop_folded.proofs.text.line_number.Given as goal

abbrev pub invariant-loop-byte : goal.invariant-loop-byte
invariant-loop-byte l = (l.number ≡ 1 + count_by (λ byte. byte == 10) (take l.byte-index (take l.offset l.text))) × (l.number ≤ 1 + l.byte-index)
