-- What the call over the objects promises, of the registers that C passes: where no address is found, they are as before.
use Rattle.std.proofs.Common.{rules, ◌≡◌, ◌≢◌, to_z, of_z}
use mir.Val.{SFits}
use mir.Syntax.{w32}
use Rattle.std.proofs.lemmas.Int.{to_z-of_z}
use Rattle.framehop_c.specs.Status.{ok}
use Rattle.framehop_c.proofs.aarch64.framehop_unwinder_aarch64_unwind_frame.Goals as goal

pub returns-else-status-eq-FRAMEHOP_OK-clause-answers : goal.returns-else-status-eq-FRAMEHOP_OK-clause-answers
returns-else-status-eq-FRAMEHOP_OK-clause-answers c =
    let unwound = c.unwind_frame_by-status in
    let fits : SFits w32 unwound.result = search rules in
    let same : to_z w32 (of_z w32 unwound.result) ≡ unwound.result = to_z-of_z w32 unwound.result fits in
    let other : unwound.result ≢ ok = search rules in
    rw (← c.object_mut.ensures.object, ← c.object_mut-2.ensures.object, ← c.load-regs.ensures, same) (rw (unwound.ensures.kept other) at unwound.ensures.answers)
