use Rattle.std.proofs.Common.{false, ◌≡◌, ◌+◌, ◌-◌, ◌<◌, ◌∷◌, ◌∙◌, drop, length, get_or, ap, sym, arith}
use Rattle.std.proofs.lemmas.List.{at_drop_more}
use Rattle.std.specs.List.{find}
use Rattle.std.specs.Prelude.{Some}
use Rattle.framehop_processes.specs.declared.mapping.Mapping.{Mapping}
use Rattle.framehop_dump_stacks.specs.Problems.{is_of_file}
use Rattle.framehop_dump_stacks.proofs.FirstMappingLemmas.{entered}
use Rattle.framehop_dump_stacks.proofs.first_mappings.by_file.Goals as goal

pub loop-left-preserved-in_ok-insert : goal.loop-left-preserved-in_ok-insert
loop-left-preserved-in_ok-insert c =
    let l = c.loop-left in
    let mappings = c.args.mappings.now in
    let left = l.left - 1 in
    let m : Mapping = get_or mappings left (record { start = 0; end = 0; base_avma = 0; file = 0; has_sections = false }) in
    let bound = l.invariant.0 in
    let test = c.loop-left-test.true in
    let one : l.left ≡ left + 1 = omega (arith, test) in
    let within : left < length mappings = omega (arith, test, bound) in
    let rest : drop left mappings ≡ m ∷ drop l.left mappings =
    at_drop_more (λ some. some) mappings left _ within ∙ ap (λ n. m ∷ drop n mappings) (sym one) in
    let updates = c.in_ok-insert.ensures.updates in (
      omega (arith, bound),
      λ number. entered l.by_file c.insert.new.self m (drop l.left mappings) c.if-mapping.true updates.1 updates.2 l.invariant.1 number
          ∙ ap (find (is_of_file (Some number))) (sym rest),
    )
