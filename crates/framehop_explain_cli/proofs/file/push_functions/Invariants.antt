use Rattle.std.proofs.Common.{◌≡◌, ℕ, ◌+◌, ◌-◌, ◌<◌, ◌++◌, length, string_bytes}
use Rattle.framehop_explain_cli.specs.Functions.{function_lines}
use Rattle.framehop_explain_cli.proofs.FunctionLemmas.{left}
use Rattle.framehop_explain_cli.proofs.file.push_functions.Given as goal

abbrev pub invariant-loop-at : goal.invariant-loop-at
invariant-loop-at l = (n : ℕ) × (length l.section.bytes < n + l.at)
    × (left l.section (string_bytes l.out) n l.at ≡ string_bytes l.fn.out ++ function_lines l.section)
    × (l.cies ≡ l.section)

abbrev pub decreases-loop-at : goal.decreases-loop-at
decreases-loop-at l = length l.section.bytes - l.at
