use Rattle.std.proofs.Common.{◌∙◌, ◌==◌, rules, tests}
use Rattle.std.proofs.lemmas.Iterator.{YieldsList-from_slice}
use Rattle.std.proofs.lemmas.Iterator.Search.{find_from_yields_List}
use Rattle.framehop_dump_files.specs.declared.minidump.stream.Stream.{Stream}
use Rattle.framehop_dump_files.proofs.minidump.stream.first_stream.Goals as goal

pub returns : goal.returns
returns c =
    c.copied.ensures
    ∙ find_from_yields_List (λ (stream : Stream). stream.stream_type == c.args.stream_type) _ _ _ c.find.ensures.ran (YieldsList-from_slice c.args.streams.now cc)
    (λ x b q k. search (rules, tests))
