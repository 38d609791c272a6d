use Rattle.std.proofs.Common.{sym, ap, length, rules}
use Rattle.framehop_pe.proofs.Pops.{pops_in-more, pops_in-none, left-none, left-more}
use Rattle.framehop_pe.proofs.unwind_info.epilog.EpilogInstructionsIterator.next.Goals as goal

pub returns-in_err-register-clause-steps : goal.returns-in_err-register-clause-steps
returns-in_err-register-clause-steps c =
    let bytes = c.args.self.now.bytes.now in
    let none = pops_in-none bytes c.in_err-register.ensures.exact in
    let before = left-none c.args.self.now.release _ (sym c.in_default.ensures.value) none in
    let after = left-none c.take.new.self _ c.take.ensures.after none in
    rw c.from_residual.ensures (before, after)

pub returns-clause-steps : goal.returns-clause-steps
returns-clause-steps c =
    let bytes = c.args.self.now.bytes.now in
    let more = pops_in-more bytes c.skip_bytes-self.result.now c.in_ok-register.register c.in_ok-register.size c.in_ok-register.ensures.exact c.in_ok-register.ensures.within c.skip_bytes-self.ensures in
    left-more c.args.self.now.release c.take.new.self _ _ c.in_ok-register.register (sym c.in_default.ensures.value) c.take.ensures.after more

pub returns-clause-goes : goal.returns-clause-goes
returns-clause-goes c =
    let bytes = c.args.self.now.bytes.now in
    let more = pops_in-more bytes c.skip_bytes-self.result.now c.in_ok-register.register c.in_ok-register.size c.in_ok-register.ensures.exact c.in_ok-register.ensures.within c.skip_bytes-self.ensures in
    let step = left-more c.args.self.now.release c.take.new.self _ _ c.in_ok-register.register (sym c.in_default.ensures.value) c.take.ensures.after more in
    let shorter = ap length step in
    search rules
