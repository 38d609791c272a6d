use Rattle.std.proofs.Common.{arith, inr}
use Rattle.std.proofs.lemmas.Grind.{common_steps}
use Rattle.framehop_folded.proofs.TextLemmas.{line_at}
use Rattle.framehop_folded.proofs.text.read_line.Goals as goal

pub returns-in_default-count_of : goal.returns-in_default-count_of
returns-in_default-count_of c =
    let line = line_at c.args.offset c.args.line.now c.in-Some.blank c.in-Some.ensures in
    inr (grind (arith, common_steps, line))

pub returns : goal.returns
returns c =
    let line = line_at c.args.offset c.args.line.now c.in-Some.blank c.in-Some.ensures in
    grind (arith, common_steps, line)
