use Rattle.std.proofs.Common.{sym, ◌∙◌}
use Rattle.framehop_pe.proofs.CodeLists.{read_codes-whole, read_codes-end}
use Rattle.framehop_pe.proofs.unwind_info.info.UnwindCodes.are_known.Goals as goal

pub loop-size-preserved : goal.loop-size-preserved
loop-size-preserved c =
    sym (read_codes-whole c.args.self.now.has_frame_register c.loop-size.bytes.now c.skip_bytes-bytes.result.now c.in-Some.field-0-0 c.in-Some.size c.in-Some.ensures.exact c.in-Some.ensures.within c.skip_bytes-bytes.ensures) ∙ c.loop-size.invariant

pub returns : goal.returns
returns c =
    c.is_empty.ensures ∙ sym (read_codes-end c.args.self.now.has_frame_register c.loop-size.bytes.now c.in_default.ensures.exact) ∙ c.loop-size.invariant
