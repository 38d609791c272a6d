use Rattle.std.proofs.Common.{◌≡◌, take}
use Rattle.std.specs.Prelude.{fold}
use Rattle.framehop_processes.specs.MadeUpId.{after_byte}
use Rattle.framehop_processes.proofs.made_up_id.crc32.Given as goal

abbrev pub invariant-loop-byte : goal.invariant-loop-byte
invariant-loop-byte l = l.remainder ≡ fold after_byte 0xFFFFFFFF (take l.byte-index l.bytes)
