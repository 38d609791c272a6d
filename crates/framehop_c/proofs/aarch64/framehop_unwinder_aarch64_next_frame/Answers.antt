-- What the call over the objects promises, of the registers that C passes: where no frame is found, they are as before.
use Rattle.std.proofs.Common.{rules, ◌≡◌, ◌≢◌, to_z, of_z}
use mir.Val.{SFits}
use mir.Syntax.{w32}
use Rattle.std.proofs.lemmas.Int.{to_z-of_z}
use Rattle.framehop_c.specs.Status.{ok, return_address_is_null}
use Rattle.framehop_c.proofs.aarch64.framehop_unwinder_aarch64_next_frame.Goals as goal

pub returns-then-status-eq-FRAMEHOP_OK-clause-answers : goal.returns-then-status-eq-FRAMEHOP_OK-clause-answers
returns-then-status-eq-FRAMEHOP_OK-clause-answers c =
    let found = c.next_frame_by-status in
    let fits : SFits w32 found.result = search rules in
    let same : to_z w32 (of_z w32 found.result) ≡ found.result = to_z-of_z w32 found.result fits in
    λ fine other.
    rw (← c.object_mut.ensures.object, ← c.object_mut-2.ensures.object, ← c.load-regs.ensures, c.store.ensures, same) (found.ensures.answers (rw same at fine) (rw same at other))

pub returns-then-status-eq-FRAMEHOP_OK-clause-ahead : goal.returns-then-status-eq-FRAMEHOP_OK-clause-ahead
returns-then-status-eq-FRAMEHOP_OK-clause-ahead c =
    let found = c.next_frame_by-status in
    let fits : SFits w32 found.result = search rules in
    let same : to_z w32 (of_z w32 found.result) ≡ found.result = to_z-of_z w32 found.result fits in
    λ is_ok.
    rw (← c.object_mut.ensures.object, ← c.object_mut-2.ensures.object, c.store.ensures) (found.ensures.ahead (rw same at is_ok))

pub returns-else-status-clause-answers : goal.returns-else-status-clause-answers
returns-else-status-clause-answers c =
    let found = c.next_frame_by-status in
    let fits : SFits w32 found.result = search rules in
    let same : to_z w32 (of_z w32 found.result) ≡ found.result = to_z-of_z w32 found.result fits in
    let not_ok : found.result ≢ ok = search rules in
    let not_null : found.result ≢ return_address_is_null = search rules in
    λ fine other.
    rw (← c.object_mut.ensures.object, ← c.object_mut-2.ensures.object, ← c.load-regs.ensures, same) (rw (found.ensures.kept not_ok not_null (rw same at other)) at found.ensures.answers (rw same at fine) (rw same at other))

pub returns-then-status-eq-FRAMEHOP_OK-clause-null : goal.returns-then-status-eq-FRAMEHOP_OK-clause-null
returns-then-status-eq-FRAMEHOP_OK-clause-null c =
    let found = c.next_frame_by-status in
    let fits : SFits w32 found.result = search rules in
    let same : to_z w32 (of_z w32 found.result) ≡ found.result = to_z-of_z w32 found.result fits in
    rw (← c.object_mut.ensures.object, ← c.object_mut-2.ensures.object, same) found.ensures.null

pub returns-then-status-eq-FRAMEHOP_OK-clause-may_run_out : goal.returns-then-status-eq-FRAMEHOP_OK-clause-may_run_out
returns-then-status-eq-FRAMEHOP_OK-clause-may_run_out c =
    let found = c.next_frame_by-status in
    let fits : SFits w32 found.result = search rules in
    let same : to_z w32 (of_z w32 found.result) ≡ found.result = to_z-of_z w32 found.result fits in
    rw (← c.object_mut.ensures.object, ← c.object_mut-2.ensures.object, same) found.ensures.may_run_out

pub returns-else-status-clause-null : goal.returns-else-status-clause-null
returns-else-status-clause-null c =
    let found = c.next_frame_by-status in
    let fits : SFits w32 found.result = search rules in
    let same : to_z w32 (of_z w32 found.result) ≡ found.result = to_z-of_z w32 found.result fits in
    rw (← c.object_mut.ensures.object, ← c.object_mut-2.ensures.object, same) found.ensures.null

pub returns-else-status-clause-may_run_out : goal.returns-else-status-clause-may_run_out
returns-else-status-clause-may_run_out c =
    let found = c.next_frame_by-status in
    let fits : SFits w32 found.result = search rules in
    let same : to_z w32 (of_z w32 found.result) ≡ found.result = to_z-of_z w32 found.result fits in
    rw (← c.object_mut.ensures.object, ← c.object_mut-2.ensures.object, same) found.ensures.may_run_out

pub returns-then-status-eq-FRAMEHOP_OK-clause-looked_up_ahead : goal.returns-then-status-eq-FRAMEHOP_OK-clause-looked_up_ahead
returns-then-status-eq-FRAMEHOP_OK-clause-looked_up_ahead c =
    let found = c.next_frame_by-status in
    let fits : SFits w32 found.result = search rules in
    let same : to_z w32 (of_z w32 found.result) ≡ found.result = to_z-of_z w32 found.result fits in
    λ is_ok. rw (← c.object_mut.ensures.object, ← c.object_mut-2.ensures.object) (found.ensures.looked_up_ahead (rw same at is_ok))
