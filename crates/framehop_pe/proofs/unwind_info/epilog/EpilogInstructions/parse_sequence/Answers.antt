use Rattle.framehop_pe.proofs.Pops.{epilog_of-some, epilog_of-none}
use Rattle.framehop_pe.proofs.unwind_info.epilog.EpilogInstructions.parse_sequence.Goals as goal

pub returns-then-is_end : goal.returns-then-is_end
returns-then-is_end c =
    epilog_of-some c.args.frame_register c.args.function_size c.args.bytes.now c.release-instructions.result.release c.release-instructions.result.bytes.now c.skip_pops.result.now c.release-instructions.ensures c.skip_pops.ensures c.if-is_end.ensures

pub returns-else-is_end : goal.returns-else-is_end
returns-else-is_end c =
    epilog_of-none c.args.frame_register c.args.function_size c.args.bytes.now c.release-instructions.result.release c.release-instructions.result.bytes.now c.skip_pops.result.now c.release-instructions.ensures c.skip_pops.ensures c.if-is_end.ensures
