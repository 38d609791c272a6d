use Rattle.std.proofs.Common.{◌≡◌, ◌++◌, drop, string_bytes}
use Rattle.std.specs.List.{flat_map}
use Rattle.framehop_disk.specs.Paths.{byte_digits}
use Rattle.framehop_disk.proofs.paths.push_bytes.Given as goal

-- what the bytes that are left add is what is still to be appended
abbrev pub invariant-loop-byte : goal.invariant-loop-byte
invariant-loop-byte l = string_bytes l.path ++ flat_map byte_digits (drop l.byte-index l.bytes) ≡ string_bytes l.fn.path ++ flat_map byte_digits l.bytes
