use Rattle.std.proofs.Common.{◌∙◌, ap, sym, rules, tests}
use Rattle.std.specs.Prelude.{option_map}
use Rattle.std.proofs.lemmas.Iterator.{YieldsList-from_slice}
use Rattle.std.proofs.lemmas.Iterator.Search.{find_from_yields_List}
use Rattle.framehop_memory.specs.SizedRange.{has_sized, range_in}
use Rattle.framehop_memory.proofs.range_tree.first_of.Goals as goal

pub returns : goal.returns
returns c =
    ap (option_map range_in) (sym c.in_ok-sized.was ∙ c.copied.ensures
    ∙ find_from_yields_List (has_sized c.args.address c.args.size) _ _ _ c.find.ensures.ran (YieldsList-from_slice c.args.ranges.now cc)
    (λ x b q k. search (rules, tests)))

pub returns-in_err-sized : goal.returns-in_err-sized
returns-in_err-sized c =
    c.from_residual.ensures
    ∙ ap (option_map range_in) (sym c.in_err-sized.was ∙ c.copied.ensures
    ∙ find_from_yields_List (has_sized c.args.address c.args.size) _ _ _ c.find.ensures.ran (YieldsList-from_slice c.args.ranges.now cc)
    (λ x b q k. search (rules, tests)))
