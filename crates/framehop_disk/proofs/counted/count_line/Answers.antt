use Rattle.std.proofs.Common.{ap, ◌∙◌}
use Rattle.framehop_disk.specs.Printed.{printed_text}
use Rattle.framehop_disk.proofs.CountedLemmas.{line-counted}
use Rattle.framehop_disk.proofs.counted.count_line.Goals as goal

pub returns : goal.returns
returns c =
    line-counted c.args.counted.now c.add.new.self c.args.line.now c.in_ok-stack.stack (c.in_ok-stack.ensures ∙ ap printed_text c.as_slice.ensures.value) c.add.result c.add.ensures.counted
    c.add.ensures.others
