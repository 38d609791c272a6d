-- What the walk has written, with the numbers of why it has stopped.
use Rattle.std.proofs.Common.{rules, ◌≡◌, to_z, of_z}
use mir.Val.{SFits}
use mir.Syntax.{w32}
use Rattle.std.proofs.lemmas.Int.{to_z-of_z}
use Rattle.framehop_c.proofs.Stops.{told-up-to}
use Rattle.framehop_c.proofs.calls.walk_on_from.Goals as goal

pub returns-clause-answers : goal.returns-clause-answers
returns-clause-answers g c = λ frame sound memory agrees.
    let written = rw c.in-Some.ensures.1 at c.walk_on-frame_count.ensures.answers sound memory agrees in
    let told = c.stop_status-status in
    let fits : SFits w32 told.result.0 = search rules in
    let same : to_z w32 (of_z w32 told.result.0) ≡ told.result.0 = to_z-of_z w32 told.result.0 fits in
    rw same (told-up-to _ _ _ _ _ _ _ _ c.walk_on-frame_count.result.1 written.0 told.ensures.status told.ensures.address told.ensures.memory told.ensures.missing)
