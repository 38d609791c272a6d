use Rattle.std.proofs.Common.{◌≤◌, length, false, arith, refl, ◌∙◌}
use Rattle.framehop_processes.specs.declared.mapping.Mapping.{Mapping}
use Rattle.framehop_processes.proofs.MappingLemmas.{inserted-next}
use Rattle.framehop_processes.proofs.around.replace.Goals as goal

pub loop-mapping-preserved : goal.loop-mapping-preserved
loop-mapping-preserved c =
    let default : Mapping = record { start = 0; end = 0; base_avma = 0; file = 0; has_sections = false } in
    let l = c.loop-mapping in
    let old = c.args.list.now.items in
    let rising = c.requires.rising in
    let inside = c.requires.within in
    let fits : c.args.from ≤ length old = omega (arith, rising, inside) in
    let place = l.invariant.1 in (
      c.in_ok-insert.ensures.items
          ∙ inserted-next old c.args.changed.now l.list.items c.args.from c.args.to l.mapping-index l.at _ default l.invariant.0 fits
          c.loop-mapping-test.true place refl,
      omega (arith, place),
    )
