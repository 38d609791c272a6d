use Rattle.std.proofs.Common.{◌∙◌, rules, tests}
use Rattle.std.proofs.lemmas.Iterator.{YieldsList-from_slice}
use Rattle.std.proofs.lemmas.Iterator.Search.{find_from_yields_List}
use Rattle.framehop_memory.specs.Segment.{is_loaded_from}
use Rattle.framehop_memory.proofs.segment.segment_of_file_offset.Goals as goal

pub returns : goal.returns
returns c =
    c.copied.ensures
    ∙ find_from_yields_List (is_loaded_from c.args.offset) _ _ _ c.find.ensures.ran (YieldsList-from_slice c.args.segments.now cc)
    (λ x b q k. search (rules, tests))
