-- What the call over the objects promises, of the registers that C passes.
use Rattle.std.proofs.Common.{rules, ◌≡◌, to_z, of_z}
use mir.Val.{SFits}
use mir.Syntax.{w32}
use Rattle.std.proofs.lemmas.Int.{to_z-of_z}
use Rattle.framehop_c.proofs.x86_64.framehop_unwinder_x86_64_walk_on.Goals as goal

pub returns-then-status-clause-answers : goal.returns-then-status-clause-answers
returns-then-status-clause-answers c =
    let walked = c.walk_on_by-status in
    let fits : SFits w32 walked.result = search rules in
    let same : to_z w32 (of_z w32 walked.result) ≡ walked.result = to_z-of_z w32 walked.result fits in
    rw (← c.object_mut.ensures.object, ← c.object_mut-2.ensures.object, ← c.load-regs.ensures, c.store.ensures, same) walked.ensures.answers
