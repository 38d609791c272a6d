use Rattle.std.proofs.Common.{◌∙◌, ap, take, refl}
use Rattle.std.proofs.lemmas.Result.{err_from_is_err_and}
use Rattle.framehop_cfi.specs.Section.{Section}
use Rattle.framehop_cfi.specs.RowAt.{instructions_of_cie}
use Rattle.framehop_cfi.proofs.Cursor.{begins, not-begun}
use Rattle.framehop_cfi.proofs.Room.{rules-need, rows-need, error-same}
use Rattle.framehop_cfi.proofs.context.UnwindContext.begin_rows.Goals as goal

pub returns-in_err-run-clause-refused : goal.returns-in_err-run-clause-refused
returns-in_err-run-clause-refused g c =
    let p = err_from_is_err_and c.from_residual.result c.from_residual.ensures.1 in
    let bases = ap (λ (s : Section). s.bases) c.section.view_is in
    let bytes = c.front-bytes.ensures ∙ ap (λ (s : Section). take c.args.fde.now.cie.end s.bytes) c.section.view_is in
    rw (p.1, p.2) (λ kept. not-begun g.S.UnwindContextStorage.limits c.args.section.now c.args.fde.now _
    (rw (← c.clear.ensures, ← bases, ← bytes) (c.in_err-run.ensures.exact kept)))

pub returns-clause-begun : goal.returns-clause-begun
returns-clause-begun g c =
    let bases = ap (λ (s : Section). s.bases) c.section.view_is in
    let bytes = c.front-bytes.ensures ∙ ap (λ (s : Section). take c.args.fde.now.cie.end s.bytes) c.section.view_is in
    rw c.in_ok-begin_fde.ensures.ok (begins g.S.UnwindContextStorage.limits c.args.section.now c.args.fde.now c.run.new.self
    (rw (← c.clear.ensures, ← bases, ← bytes) c.in_ok-run.ensures.exact))

pub returns-in_err-run-clause-room : goal.returns-in_err-run-clause-room
returns-in_err-run-clause-room g c = λ out.
    let p = err_from_is_err_and c.from_residual.result c.from_residual.ensures.1 in
    let bases = ap (λ (s : Section). s.bases) c.section.view_is in
    let bytes = c.front-bytes.ensures ∙ ap (λ (s : Section). take c.args.fde.now.cie.end s.bytes) c.section.view_is in
    let refused = rw (p.1, p.2) at out in
    rw (← bases, ← bytes) (c.in_err-run.ensures.room (error-same _ _ refused) (rw c.clear.ensures refl))

-- the row that the CIE left has a rule
pub returns-in_err-begin_fde-clause-room : goal.returns-in_err-begin_fde-clause-room
returns-in_err-begin_fde-clause-room g c = λ out.
    let bases = ap (λ (s : Section). s.bases) c.section.view_is in
    let bytes = c.front-bytes.ensures ∙ ap (λ (s : Section). take c.args.fde.now.cie.end s.bytes) c.section.view_is in
    rules-need (instructions_of_cie c.args.section.now c.args.fde.now.cie)
    g.S.UnwindContextStorage.limits c.args.fde.now.cie.instructions 0 c.run.new.self
    (rw (← c.clear.ensures, ← bases, ← bytes) c.in_ok-run.ensures.exact) c.in_err-begin_fde.ensures.room

pub returns-clause-bare : goal.returns-clause-bare
returns-clause-bare g c = λ none.
    let bases = ap (λ (s : Section). s.bases) c.section.view_is in
    let bytes = c.front-bytes.ensures ∙ ap (λ (s : Section). take c.args.fde.now.cie.end s.bytes) c.section.view_is in
    let bare = rows-need (instructions_of_cie c.args.section.now c.args.fde.now.cie) g.S.UnwindContextStorage.limits
    c.args.fde.now.cie.instructions 0 c.run.new.self
    (rw (← c.clear.ensures, ← bases, ← bytes) c.in_ok-run.ensures.exact) none in
    rw c.in_ok-begin_fde.ensures.ok bare
