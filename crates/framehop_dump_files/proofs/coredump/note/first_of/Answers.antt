use Rattle.std.proofs.Common.{◌∙◌, ap, rules, tests}
use Rattle.std.specs.Prelude.{option_map}
use Rattle.std.proofs.lemmas.Iterator.{YieldsList-from_slice}
use Rattle.std.proofs.lemmas.Iterator.Search.{find_from_yields_List}
use Rattle.framehop_dump_files.specs.Coredump.Note.{placed_view, is_of}
use Rattle.framehop_dump_files.proofs.NoteLemmas.{find-viewed}
use Rattle.framehop_dump_files.proofs.coredump.note.first_of.Goals as goal

pub returns : goal.returns
returns c =
    let test = is_of c.args.owner.now c.args.n_type in
    let found = c.copied.ensures
    ∙ find_from_yields_List (λ placed. test (placed_view placed)) _ _ _ c.find.ensures.ran (YieldsList-from_slice c.args.notes.now cc)
    (λ x b q k. search (rules, tests)) in
    ap (option_map placed_view) found ∙ find-viewed placed_view test c.args.notes.now
