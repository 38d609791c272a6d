use Rattle.std.proofs.Common.{ap, sym, ◌∙◌}
use Rattle.std.specs.Option.{option_map}
use Rattle.framehop_disk.proofs.GapsLemmas.{counted-parts}
use Rattle.framehop_disk.proofs.gaps.Gaps.new.Goals as goal

pub invariant_of-result : goal.invariant_of-result
invariant_of-result c =
    counted-parts c.args.from c.args.parts.now c.in-Some.list.items
    (sym (ap (option_map (λ gaps. gaps.items)) c.in-Some.is) ∙ c.in_ok-list.ensures)
