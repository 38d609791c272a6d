use Rattle.std.proofs.Common.{◌≡◌, ℕ, List, ◌++◌, drop}
use Rattle.std.specs.Fmt.{HasWritten, IsPlainFormatter}
use Rattle.framehop_explain.specs.RuleText.{pops_text}
use Rattle.framehop_explain.proofs.rule_text.write_pops.Given as goal

abbrev pub invariant-loop-i : goal.invariant-loop-i
invariant-loop-i g l = IsPlainFormatter l.initial.f → (written : List ℕ) × HasWritten g.W.Write.write_str_gives l.initial.f written l.f
    × (written ++ pops_text (drop l.i l.registers) ≡ pops_text l.registers)
