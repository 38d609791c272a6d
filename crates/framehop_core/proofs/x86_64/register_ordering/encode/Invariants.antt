use Rattle.std.proofs.Common.{◌≡◌, length, drop}
use Rattle.framehop_core.proofs.Orderings.{Encodes}
use Rattle.framehop_core.proofs.x86_64.register_ordering.encode.Given as goal

abbrev pub invariant-loop-place : goal.invariant-loop-place
invariant-loop-place l =
    (length l.order ≡ 8) × Encodes l.registers (drop l.place l.order) (drop l.place l.registers) l.encoded l.scale
