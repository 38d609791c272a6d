use Rattle.std.proofs.Common.{◌≡◌, ◌≤◌, ◌-◌, length, map}
use Rattle.framehop_folded.specs.Text.{counted, read_text, read_lines}
use Rattle.framehop_folded.proofs.TextLemmas.{after, split_lines}
use Rattle.framehop_folded.proofs.text.read_folded.Given as goal

abbrev pub invariant-loop-rest : goal.invariant-loop-rest
invariant-loop-rest l = (length l.rest ≤ length l.text)
    × (read_text l.text ≡ after (map counted l.lines.items) (read_lines (length l.text - length l.rest) (split_lines l.rest)))

abbrev pub decreases-loop-rest : goal.decreases-loop-rest
decreases-loop-rest l = length l.rest
