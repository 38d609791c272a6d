use Rattle.std.proofs.Common.{suc, length, refl, sym, ◌∙◌, arith}
use Rattle.std.proofs.lemmas.Result.{err_from_is_err_and}
use Rattle.framehop_cfi.specs.RowAt.{run_from}
use Rattle.framehop_cfi.specs.RowRoom.{list_needs_room}
use Rattle.framehop_cfi.proofs.Turn.{turn-refused, turn-forward, turn-near, turn-on, turn-forgets, turn-needs}
use Rattle.framehop_cfi.proofs.Room.{needed-or, error-same}
use Rattle.framehop_cfi.proofs.context.UnwindContext.run.Goals as goal

pub loop-cursor-init : goal.loop-cursor-init
unfolding run_from list_needs_room
loop-cursor-init g c = (suc (length c.args.bytes.now), omega arith, refl, λ needs. needs, c.requires.near, λ none _. none)

pub returns-in_err-after-clause-exact : goal.returns-in_err-after-clause-exact
returns-in_err-after-clause-exact g c =
    let p = err_from_is_err_and c.from_residual.result c.from_residual.ensures.1 in
    let inv = c.loop-cursor.invariant in
    rw (p.1, p.2) (λ kept. sym inv.2 ∙ turn-refused _ _ inv.0 c.loop-cursor.cursor.next c.loop-cursor.cursor.location
    c.loop-cursor.self _ (inv.1, c.loop-cursor-test.true) (c.in_err-after.ensures.exact kept))

pub loop-cursor-smaller : goal.loop-cursor-smaller
loop-cursor-smaller g c =
    let is = rw c.in-Some.is at c.in_ok-after.ensures.exact in
    let further = turn-forward _ _ c.loop-cursor.cursor.next c.loop-cursor.cursor.location c.loop-cursor.self
    c.in-Some.after c.run_next.new.self is in
    omega arith

pub loop-cursor-preserved : goal.loop-cursor-preserved
loop-cursor-preserved g c =
    let inv = c.loop-cursor.invariant in
    let is = rw c.in-Some.is at c.in_ok-after.ensures.exact in
    let on = turn-on g.S.UnwindContextStorage.limits _ inv.0 c.loop-cursor.cursor.next c.loop-cursor.cursor.location
    c.loop-cursor.self c.in-Some.after c.run_next.new.self _ _ (inv.1, c.loop-cursor-test.true) is inv.2 inv.3 in
    let near = turn-near g.S.UnwindContextStorage.limits _ c.loop-cursor.cursor.next c.loop-cursor.cursor.location
    c.loop-cursor.self c.in-Some.after c.run_next.new.self is in
    let none = turn-forgets g.S.UnwindContextStorage.limits _ inv.0 c.loop-cursor.cursor.next c.loop-cursor.cursor.location
    c.loop-cursor.self c.in-Some.after c.run_next.new.self _ (inv.1, c.loop-cursor-test.true) is inv.3 in
    (on.0, on.1, on.2, on.3, near, λ began needless. none needless (inv.5 began needless))

-- a row was remembered before, or an instruction needs room
pub returns-in_err-after-clause-room : goal.returns-in_err-after-clause-room
returns-in_err-after-clause-room g c = λ out began.
    let p = err_from_is_err_and c.from_residual.result c.from_residual.ensures.1 in
    let inv = c.loop-cursor.invariant in
    let refused = rw (p.1, p.2) at out in
    needed-or (list_needs_room _ c.args.at c.args.start) (λ needless. inv.3 (turn-needs g.S.UnwindContextStorage.limits _ inv.0
    c.loop-cursor.cursor.next c.loop-cursor.cursor.location (inv.1, c.loop-cursor-test.true)
    (c.in_err-after.ensures.room (error-same _ _ refused) (inv.5 began needless))))
