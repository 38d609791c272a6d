use Rattle.std.proofs.Common.{◌≡◌, length, arith}
use Rattle.std.proofs.lemmas.Grind.{common_steps}
use Rattle.framehop_disk.specs.Paths.{is_separator}
use Rattle.framehop_disk.proofs.PathLemmas.{name_from}
use Rattle.framehop_disk.proofs.paths.file_name_of.Goals as goal

pub returns : goal.returns
returns c =
    let inv = c.loop-at.invariant in
    let at_end : c.loop-at.at ≡ length c.args.path.now = omega arith in
    let name = name_from is_separator c.args.path.now c.loop-at.start (omega arith) (λ k from below. inv.none k from (omega (arith, at_end, below))) inv.one in
    grind (arith, common_steps, name)
