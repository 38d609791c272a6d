use Rattle.std.proofs.Common.{◌≢◌, refl, ap, ◌∙◌, arith}
use Rattle.framehop_cfi.specs.declared.read_error.ReadError.TheVariants.{OutOfMemory}
use Rattle.framehop_check.specs.Claim.{claim_of_row}
use Rattle.framehop_check.proofs.RowLemmas.{spanned-none, spanned-more, spanned-all, spanned-rowless}
use Rattle.framehop_check.proofs.rows.read_rows.Goals as goal

pub loop-cursor-init : goal.loop-cursor-init
loop-cursor-init g c = (
  c.requires.reached,
  rw (c.requires.empty, c.requires.first) (spanned-none g.C.Code.numbered g.C.Code.return_column g.S.UnwindContextStorage.limits c.args.section.now c.args.fde.now),
)

pub loop-cursor-preserved : goal.loop-cursor-preserved
loop-cursor-preserved g c =
    let reached = c.loop-cursor.invariant.0 in
    let fits = c.ranges.end.fits in
    let end = c.requires.end in
    let less = c.loop-cursor-test.true in
    let other = c.earlier.ensures.other in
    let more = c.in-Ok.ensures.further (omega (arith, fits, end)) (omega (arith, less, end)) in (
      c.in-Ok.ensures.reached reached,
      rw c.in_ok-push.ensures.items
          (spanned-more g.C.Code.numbered g.C.Code.return_column g.S.UnwindContextStorage.limits c.args.section.now c.args.fde.now (omega (arith, fits, end))
          c.loop-cursor.cursor.location c.in-Ok.after.location c.loop-cursor.spans.items
          (record { start = c.loop-cursor.cursor.location; end = c.earlier.result; claim = c.claim_of_row-claim.result })
          c.next_row.new.self.row c.loop-cursor.invariant.1 c.in-Ok.ensures.forward (c.in-Ok.ensures.row reached) refl
          (c.claim_of_row-claim.ensures ∙ ap (claim_of_row g.C.Code.numbered g.C.Code.return_column) c.row.ensures)
          c.earlier.ensures.one (omega (arith, other, end))
          (λ address below near. c.earlier.ensures.least address below (omega (arith, near, end)))
          (c.earlier.ensures.least c.loop-cursor.cursor.location more less)),
    )

pub returns-else-is_out_of_memory-clause-claims : goal.returns-else-is_out_of_memory-clause-claims
returns-else-is_out_of_memory-clause-claims g c =
    let kept : c.in-Err.error ≢ OutOfMemory = λ is. (let t = c.is_out_of_memory.ensures.1 is in cc) in
    spanned-rowless g.C.Code.numbered g.C.Code.return_column g.S.UnwindContextStorage.limits c.args.section.now c.args.fde.now c.loop-cursor.cursor.location c.loop-cursor.spans.items c.in-Err.error
    (c.in-Err.ensures.refused c.loop-cursor.invariant.0 kept) c.loop-cursor.invariant.1

pub returns-else-is_out_of_memory-clause-ordered : goal.returns-else-is_out_of_memory-clause-ordered
returns-else-is_out_of_memory-clause-ordered g c = c.loop-cursor.invariant.1.ordered

pub returns-clause-ordered : goal.returns-clause-ordered
returns-clause-ordered g c = c.loop-cursor.invariant.1.ordered

pub returns-clause-claims : goal.returns-clause-claims
returns-clause-claims g c =
    let end = c.requires.end in
    let far = c.loop-cursor-test.false in
    spanned-all g.C.Code.numbered g.C.Code.return_column g.S.UnwindContextStorage.limits c.args.section.now c.args.fde.now c.loop-cursor.cursor.location c.loop-cursor.spans.items (omega (arith, end, far)) c.loop-cursor.invariant.1
