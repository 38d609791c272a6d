use Rattle.std.proofs.Common.{◌≡◌, ℕ, List, ◌++◌, drop}
use Rattle.std.specs.Fmt.{HasWritten, IsPlainFormatter}
use Rattle.std.specs.List.{flat_map}
use Rattle.framehop_cli.specs.Printed.{byte_text}
use Rattle.framehop_cli.proofs.printed.print_bytes.Given as goal

-- what is written, and what the bytes that are left are printed as
abbrev pub invariant-loop-byte : goal.invariant-loop-byte
invariant-loop-byte g l = IsPlainFormatter l.initial.f → (written : List ℕ) × HasWritten g.W.Write.write_str_gives l.initial.f written l.f
    × (written ++ flat_map byte_text (drop l.byte-index l.bytes) ≡ flat_map byte_text l.bytes)
