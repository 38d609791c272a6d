use Rattle.std.proofs.Common.{◌≡◌, ℕ, List, ◌++◌}
use Rattle.std.specs.Fmt.{HasWritten, IsPlainFormatter}
use Rattle.std.specs.Str.{IsUtf8, chars}
use Rattle.std.specs.Str.Iter.{chars_rest}
use Rattle.framehop_cli.specs.Printed.{text_within, printed_name}
use Rattle.framehop_cli.proofs.printed.PrintedDisplay.fmt.Given as goal

-- what is written, and what the characters that are left are printed as
abbrev pub invariant-loop-character : goal.invariant-loop-character
invariant-loop-character g l = IsUtf8 (chars_rest l.character-iterator)
    × (IsPlainFormatter l.initial.f → (written : List ℕ) × HasWritten g.W.Write.write_str_gives l.initial.f written l.f
    × (written ++ text_within l.left (chars (chars_rest l.character-iterator)) ≡ printed_name l.self.0.now))
