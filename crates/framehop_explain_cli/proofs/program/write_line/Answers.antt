use Rattle.std.proofs.Common.{codes}
use Rattle.framehop_explain_cli.specs.Runs.{problem_line}
use Rattle.framehop_walk.proofs.Writes.{line-written}
use Rattle.framehop_explain_cli.proofs.program.write_line.Goals as goal

pub returns-clause-written : goal.returns-clause-written
unfolding problem_line
returns-clause-written g c =
    line-written c.write_all-4.result c.args.err.now.bytes c.write_all.new.self.bytes c.write_all-2.new.self.bytes c.write_all-3.new.self.bytes c.write_all-4.new.self.bytes
    (codes "framehop-explain: ") c.args.text.now c.args.end.now (codes "\n")
    c.in_ok-write_all.ensures.bytes (rw c.as_bytes.ensures.value at c.in_ok-write_all-2.ensures.bytes) (rw c.as_bytes-2.ensures.value at c.in_ok-write_all-3.ensures.bytes) c.write_all-4.ensures.bytes
