use Rattle.std.proofs.Common.{◌<◌, length, map, ap, ◌∙◌, arith}
use Rattle.std.proofs.lemmas.List.{take_all}
use Rattle.framehop_dumps.specs.Dump.{mapped_code_view}
use Rattle.framehop_dump_stacks.specs.FrameHeaders.{first_header}
use Rattle.framehop_dump_stacks.proofs.FrameHeaderLemmas.{one-more-code}
use Rattle.framehop_dump_stacks.proofs.frame_headers.FrameHeaders.new.Goals as goal

pub loop-mapped-preserved : goal.loop-mapped-preserved
loop-mapped-preserved c = λ path.
    let l = c.loop-mapped in
    let code = c.args.code.now in
    let within : l.mapped-index < length code = omega arith in
    one-more-code code l.mapped-index _ path _ _ within (c.in_ok-keep.ensures path) (l.invariant path)

pub returns : goal.returns
returns c = λ path.
    let l = c.loop-mapped in
    let code = c.args.code.now in
    l.invariant path
    ∙ ap (λ some. first_header (map mapped_code_view some) path) (take_all l.mapped-index code (omega arith))
