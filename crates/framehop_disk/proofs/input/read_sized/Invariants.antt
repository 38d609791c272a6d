use Rattle.std.proofs.Common.{◌≡◌, ◌*◌, length}
use Rattle.std.specs.Prelude.{min}
use Rattle.framehop_disk.proofs.input.read_sized.Given as goal

abbrev pub invariant-loop-part : goal.invariant-loop-part
invariant-loop-part l = length l.bytes.items ≡ min l.size (l._part * 0x40000)
