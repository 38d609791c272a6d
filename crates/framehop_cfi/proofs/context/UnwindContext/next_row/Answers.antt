use Rattle.std.proofs.Common.{◌∙◌, suc, length, sym, ap, take, arith, rules}
use Rattle.std.proofs.lemmas.Result.{err_from_is_err_and}
use Rattle.framehop_cfi.specs.Section.{Section}
use Rattle.framehop_cfi.specs.RowAt.{instructions_of_fde}
use Rattle.framehop_cfi.specs.RowRoom.{list_needs_room}
use Rattle.framehop_cfi.proofs.CursorRoom.{room-here, room-on, room-forgets}
use Rattle.framehop_cfi.proofs.Room.{needed-or, error-same}
use Rattle.framehop_cfi.proofs.Cursor.{reaches-on, row-before, reached-after, row-at-end, reached-end, no-row-unread, no-row-unmoved, no-row-refused, inside-there, past-there, reads-there}
use Rattle.framehop_cfi.proofs.context.UnwindContext.next_row.Goals as goal

pub returns-in_err-instruction-clause-refused : goal.returns-in_err-instruction-clause-refused
returns-in_err-instruction-clause-refused g c = λ reached.
    let p = err_from_is_err_and c.from_residual.result c.from_residual.ensures.1 in
    let bases = ap (λ (s : Section). s.bases) c.section.view_is in
    let bytes = c.front-bytes.ensures ∙ ap (λ (s : Section). take c.args.fde.now.end s.bytes) c.section.view_is in
    rw (p.1, p.2) (λ kept. no-row-unread g.S.UnwindContextStorage.limits c.args.section.now c.args.fde.now c.loop-next.next c.args.cursor.location c.loop-next.self _
    (inside-there c.args.section.now c.args.fde.now _ _ bytes bases c.loop-next.next c.loop-next-test.true) (reads-there c.args.section.now c.args.fde.now _ _ bytes bases c.loop-next.next _ (sym c.in_err-instruction.ensures.exact)) (c.loop-next.invariant.0 reached))

pub returns-in_err-moved-clause-refused : goal.returns-in_err-moved-clause-refused
returns-in_err-moved-clause-refused g c = λ reached.
    let p = err_from_is_err_and c.from_residual-in_err-moved.result c.from_residual-in_err-moved.ensures.1 in
    let bases = ap (λ (s : Section). s.bases) c.section.view_is in
    let bytes = c.front-bytes.ensures ∙ ap (λ (s : Section). take c.args.fde.now.end s.bytes) c.section.view_is in
    rw (p.1, p.2) (λ kept. no-row-unmoved g.S.UnwindContextStorage.limits c.args.section.now c.args.fde.now c.loop-next.next c.args.cursor.location c.loop-next.self
    (c.in_ok-instruction.instruction, c.in_ok-instruction.after) _
    (inside-there c.args.section.now c.args.fde.now _ _ bytes bases c.loop-next.next c.loop-next-test.true) (reads-there c.args.section.now c.args.fde.now _ _ bytes bases c.loop-next.next _ (sym c.in_ok-instruction.ensures.exact)) (sym c.in_err-moved.ensures.exact) (c.loop-next.invariant.0 reached))

pub returns-then-moved-cursor-clause-row : goal.returns-then-moved-cursor-clause-row
returns-then-moved-cursor-clause-row g c = λ reached.
    let bases = ap (λ (s : Section). s.bases) c.section.view_is in
    let bytes = c.front-bytes.ensures ∙ ap (λ (s : Section). take c.args.fde.now.end s.bytes) c.section.view_is in
    row-before g.S.UnwindContextStorage.limits c.args.section.now c.args.fde.now c.loop-next.next c.args.cursor.location c.in_ok-instruction.after
    c.in_ok-moved.moved c.in_ok-instruction.instruction c.loop-next.self
    (inside-there c.args.section.now c.args.fde.now _ _ bytes bases c.loop-next.next c.loop-next-test.true) (reads-there c.args.section.now c.args.fde.now _ _ bytes bases c.loop-next.next _ (sym c.in_ok-instruction.ensures.exact)) (sym c.in_ok-moved.ensures.exact) (c.loop-next.invariant.0 reached)

pub returns-then-moved-cursor-clause-reached : goal.returns-then-moved-cursor-clause-reached
returns-then-moved-cursor-clause-reached g c = λ reached.
    let bases = ap (λ (s : Section). s.bases) c.section.view_is in
    let bytes = c.front-bytes.ensures ∙ ap (λ (s : Section). take c.args.fde.now.end s.bytes) c.section.view_is in
    reached-after g.S.UnwindContextStorage.limits c.args.section.now c.args.fde.now c.loop-next.next c.args.cursor.location c.in_ok-instruction.after
    c.in_ok-moved.moved c.in_ok-instruction.instruction c.loop-next.self
    (inside-there c.args.section.now c.args.fde.now _ _ bytes bases c.loop-next.next c.loop-next-test.true) (reads-there c.args.section.now c.args.fde.now _ _ bytes bases c.loop-next.next _ (sym c.in_ok-instruction.ensures.exact)) (sym c.in_ok-moved.ensures.exact) (omega arith) (c.loop-next.invariant.0 reached)

pub returns-in_err-execute-clause-refused : goal.returns-in_err-execute-clause-refused
returns-in_err-execute-clause-refused g c = λ reached.
    let p = err_from_is_err_and c.from_residual-in_err-execute.result c.from_residual-in_err-execute.ensures.1 in
    let bases = ap (λ (s : Section). s.bases) c.section.view_is in
    let bytes = c.front-bytes.ensures ∙ ap (λ (s : Section). take c.args.fde.now.end s.bytes) c.section.view_is in
    rw (p.1, p.2) (λ kept. no-row-refused g.S.UnwindContextStorage.limits c.args.section.now c.args.fde.now c.loop-next.next c.args.cursor.location c.in_ok-moved.moved c.loop-next.self
    (c.in_ok-instruction.instruction, c.in_ok-instruction.after) _
    (inside-there c.args.section.now c.args.fde.now _ _ bytes bases c.loop-next.next c.loop-next-test.true) (reads-there c.args.section.now c.args.fde.now _ _ bytes bases c.loop-next.next _ (sym c.in_ok-instruction.ensures.exact)) (sym c.in_ok-moved.ensures.exact) (omega arith)
    (c.in_err-execute.ensures.exact kept) (c.loop-next.invariant.0 reached))

pub loop-next-init : goal.loop-next-init
unfolding list_needs_room
loop-next-init g c =
    (λ reached. reached, (suc (length (take c.args.fde.now.end c.args.section.now.bytes)), omega arith, λ needs. needs), λ none _. none)

pub loop-next-preserved : goal.loop-next-preserved
loop-next-preserved g c =
    let bases = ap (λ (s : Section). s.bases) c.section.view_is in
    let bytes = c.front-bytes.ensures ∙ ap (λ (s : Section). take c.args.fde.now.end s.bytes) c.section.view_is in
    let inside = inside-there c.args.section.now c.args.fde.now _ _ bytes bases c.loop-next.next c.loop-next-test.true in
    let reads = reads-there c.args.section.now c.args.fde.now _ _ bytes bases c.loop-next.next _ (sym c.in_ok-instruction.ensures.exact) in
    let inv = c.loop-next.invariant in
    let needed = list_needs_room (instructions_of_fde c.args.section.now c.args.fde.now c.args.cursor.location) c.args.cursor.next c.args.cursor.location in (
      λ reached.
          reaches-on g.S.UnwindContextStorage.limits c.args.section.now c.args.fde.now c.loop-next.next c.args.cursor.location c.in_ok-instruction.after
          c.in_ok-moved.moved c.in_ok-instruction.instruction c.loop-next.self c.execute.new.self
          inside reads (sym c.in_ok-moved.ensures.exact) (omega arith) c.in_ok-execute.ensures.exact (inv.0 reached),
      room-on g.S.UnwindContextStorage.limits c.args.section.now c.args.fde.now inv.1.0 c.loop-next.next c.args.cursor.location
          c.in_ok-instruction.after c.in_ok-moved.moved c.in_ok-instruction.instruction needed inv.1.1 inside reads
          (sym c.in_ok-moved.ensures.exact) (omega arith) inv.1.2,
      λ began none.
          room-forgets g.S.UnwindContextStorage.limits c.args.section.now c.args.fde.now inv.1.0 c.loop-next.next c.args.cursor.location
          c.in_ok-instruction.after c.in_ok-moved.moved c.in_ok-instruction.instruction needed inv.1.1 inside reads
          (sym c.in_ok-moved.ensures.exact) (omega arith) inv.1.2 c.loop-next.self c.execute.new.self
          c.in_ok-execute.ensures.exact none (inv.2 began none),
    )

-- a row was remembered before, or an instruction needs room
pub returns-in_err-execute-clause-room : goal.returns-in_err-execute-clause-room
returns-in_err-execute-clause-room g c = λ out began.
    let p = err_from_is_err_and c.from_residual-in_err-execute.result c.from_residual-in_err-execute.ensures.1 in
    let bases = ap (λ (s : Section). s.bases) c.section.view_is in
    let bytes = c.front-bytes.ensures ∙ ap (λ (s : Section). take c.args.fde.now.end s.bytes) c.section.view_is in
    let inside = inside-there c.args.section.now c.args.fde.now _ _ bytes bases c.loop-next.next c.loop-next-test.true in
    let reads = reads-there c.args.section.now c.args.fde.now _ _ bytes bases c.loop-next.next _ (sym c.in_ok-instruction.ensures.exact) in
    let inv = c.loop-next.invariant in
    let refused = rw (p.1, p.2) at out in
    let needed = list_needs_room (instructions_of_fde c.args.section.now c.args.fde.now c.args.cursor.location) c.args.cursor.next c.args.cursor.location in
    needed-or needed (λ none.
    room-here g.S.UnwindContextStorage.limits c.args.section.now c.args.fde.now inv.1.0 c.loop-next.next c.args.cursor.location
    c.in_ok-instruction.after c.in_ok-moved.moved c.in_ok-instruction.instruction needed inv.1.1 inside reads
    (sym c.in_ok-moved.ensures.exact) (omega arith) inv.1.2
    (c.in_err-execute.ensures.room (error-same _ _ refused) (inv.2 began none)))

pub returns-clause-row : goal.returns-clause-row
returns-clause-row g c = λ reached.
    let bases = ap (λ (s : Section). s.bases) c.section.view_is in
    let bytes = c.front-bytes.ensures ∙ ap (λ (s : Section). take c.args.fde.now.end s.bytes) c.section.view_is in
    row-at-end g.S.UnwindContextStorage.limits c.args.section.now c.args.fde.now c.loop-next.next c.args.cursor.location c.max.result c.loop-next.self
    (past-there c.args.section.now c.args.fde.now _ _ bytes bases c.loop-next.next (omega arith)) (c.loop-next.invariant.0 reached)

pub returns-clause-reached : goal.returns-clause-reached
returns-clause-reached g c = λ reached.
    let bases = ap (λ (s : Section). s.bases) c.section.view_is in
    let bytes = c.front-bytes.ensures ∙ ap (λ (s : Section). take c.args.fde.now.end s.bytes) c.section.view_is in
    reached-end g.S.UnwindContextStorage.limits c.args.section.now c.args.fde.now c.loop-next.next c.args.cursor.location c.max.result c.loop-next.self
    (past-there c.args.section.now c.args.fde.now _ _ bytes bases c.loop-next.next (omega arith)) (search rules) (c.loop-next.invariant.0 reached)
