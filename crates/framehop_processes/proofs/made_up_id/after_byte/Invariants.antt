use Rattle.std.proofs.Common.{◌≡◌, take}
use Rattle.std.specs.Prelude.{fold}
use Rattle.framehop_processes.specs.MadeUpId.{after_bit, bits_of}
use Rattle.framehop_processes.proofs.made_up_id.after_byte.Given as goal

abbrev pub invariant-loop-place : goal.invariant-loop-place
invariant-loop-place l = l.remainder ≡ fold after_bit l.fn.remainder (take l.place (bits_of l.fn.byte))
