use Rattle.framehop_explain_cli.specs.Functions.{unread_line}
use Rattle.framehop_explain_cli.proofs.file.push_unread.Goals as goal

pub returns : goal.returns
unfolding unread_line
returns c = rw c.in_radix.ensures at c.writeln.ensures.bytes
