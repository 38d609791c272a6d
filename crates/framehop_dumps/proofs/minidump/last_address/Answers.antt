use Rattle.std.proofs.Common.{◌<◌, map, length, ap, ◌∙◌, arith}
use Rattle.std.proofs.lemmas.Grind.{common_steps}
use Rattle.std.proofs.lemmas.List.{take_all}
use Rattle.framehop_dumps.specs.Minidump.{loaded_view, last_address}
use Rattle.framehop_dumps.proofs.MinidumpLemmas.{last-next}
use Rattle.framehop_dumps.proofs.minidump.last_address.Goals as goal

pub loop-module-preserved : goal.loop-module-preserved
loop-module-preserved c =
    let l = c.loop-module in
    let within : l.module-index < length c.args.modules.now = omega arith in
    let next = last-next c.args.modules.now l.module-index c.module-item.result within in
    grind (arith, common_steps, next)

pub returns : goal.returns
returns c =
    let l = c.loop-module in
    l.invariant ∙ ap (λ some. last_address (map loaded_view some)) (take_all l.module-index c.args.modules.now (omega arith))
