use Rattle.std.proofs.Common.{◌≡◌, ◌-◌, length}
use Rattle.framehop_core.specs.X86_64.Ordering.{eight, exchanges}
use Rattle.framehop_core.proofs.Orderings.{exchanged_from}
use Rattle.framehop_core.proofs.x86_64.register_ordering.decode.Given as goal

abbrev pub invariant-loop-place : goal.invariant-loop-place
invariant-loop-place l =
    (length l.registers ≡ 8) × (exchanged_from l.place (8 - l.place) l.rest l.registers ≡ exchanges 8 l.fn.encoded_ordering eight)
