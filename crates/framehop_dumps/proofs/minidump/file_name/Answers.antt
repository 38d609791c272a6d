use Rattle.std.proofs.Common.{◌≡◌, length, arith}
use Rattle.std.proofs.lemmas.Grind.{common_steps}
use Rattle.framehop_dumps.proofs.MinidumpLemmas.{file_name_from}
use Rattle.framehop_dumps.proofs.minidump.file_name.Goals as goal

pub returns : goal.returns
returns c =
    let inv = c.loop-at.invariant in
    let at_end : c.loop-at.at ≡ length c.args.path.now = omega arith in
    let name = file_name_from c.args.separator c.args.path.now c.loop-at.start (omega arith) (λ k from below. inv.1 k from (omega (arith, at_end, below))) inv.2 in
    grind (arith, common_steps, name)
