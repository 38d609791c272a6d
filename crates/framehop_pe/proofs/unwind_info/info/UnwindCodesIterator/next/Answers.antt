use Rattle.std.proofs.Common.{ap, length, rules}
use Rattle.framehop_pe.proofs.CodeLists.{read_codes-more, read_codes-none}
use Rattle.framehop_pe.proofs.unwind_info.info.UnwindCodesIterator.next.Goals as goal

pub returns-in_err-code-clause-steps : goal.returns-in_err-code-clause-steps
returns-in_err-code-clause-steps c =
    let none = read_codes-none c.args.self.now.has_frame_register c.args.self.now.bytes.now c.in_err-code.ensures.exact in
    rw c.from_residual.ensures (none, none)

pub returns-clause-steps : goal.returns-clause-steps
returns-clause-steps c =
    let codes = c.args.self.now in
    read_codes-more codes.has_frame_register codes.bytes.now c.skip_bytes-self.result.now c.in_ok-code.code c.in_ok-code.size c.in_ok-code.ensures.exact c.in_ok-code.ensures.within c.skip_bytes-self.ensures

pub returns-clause-goes : goal.returns-clause-goes
returns-clause-goes c =
    let codes = c.args.self.now in
    let more = read_codes-more codes.has_frame_register codes.bytes.now c.skip_bytes-self.result.now c.in_ok-code.code c.in_ok-code.size c.in_ok-code.ensures.exact c.in_ok-code.ensures.within c.skip_bytes-self.ensures in
    let shorter = ap length more in
    search rules
