use Rattle.std.proofs.Common.{◌∙◌, ap, sym}
use Rattle.framehop_dumps.specs.Dump.{mapped_code_view}
use Rattle.framehop_dumps.specs.Image.{eh_frame_header}
use Rattle.framehop_dump_stacks.proofs.FrameHeaderLemmas.{code-before, code-now}
use Rattle.framehop_dump_stacks.proofs.frame_headers.FrameHeaders.keep.Goals as goal

pub returns-then-contains_key : goal.returns-then-contains_key
returns-then-contains_key c = λ path.
    code-before c.args.self.now.by_path (mapped_code_view c.args.mapped) path
    (sym c.contains_key.ensures ∙ c.if-contains_key.true)

pub returns : goal.returns
returns c = λ path.
    let header = c.eh_frame_header.ensures ∙ ap eh_frame_header (c.as_slice.ensures.value ∙ c.in_ok-segments.ensures) in
    code-now c.args.self.now.by_path (mapped_code_view c.args.mapped) path _ _
    (sym c.contains_key.ensures ∙ c.if-contains_key.false) header (c.in_ok-insert.ensures path)
