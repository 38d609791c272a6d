use Rattle.std.proofs.Common.{◌≡◌, ◌∙◌, sym, ap, refl, take, [], inl, inr}
use Rattle.std.proofs.lemmas.Bool.{cases_Bool}
use Rattle.framehop_cfi.specs.Section.{Section}
use Rattle.framehop_cfi.specs.RowAt.{instructions_of_cie}
use Rattle.framehop_cfi.specs.RowRoom.{list_needs_room, row_needs_room}
use Rattle.framehop_cfi.proofs.Room.{rules-need, rows-need}
use Rattle.framehop_cfi.proofs.context.UnwindContext.run_fde.Goals as goal

-- the row that the CIE left has a rule
pub returns-in_err-begin_fde-clause-room : goal.returns-in_err-begin_fde-clause-room
unfolding row_needs_room
returns-in_err-begin_fde-clause-room g c = λ out.
    let covered = sym c.covers.ensures ∙ c.if-not-covers.false in
    let bases = ap (λ (s : Section). s.bases) c.section.view_is in
    let bytes = c.front-bytes.ensures ∙ ap (λ (s : Section). take c.args.fde.now.cie.end s.bytes) c.section.view_is in
    let needs = rules-need (instructions_of_cie c.args.section.now c.args.fde.now.cie)
    g.S.UnwindContextStorage.limits c.args.fde.now.cie.instructions 0 c.run.new.self
    (rw (← c.clear.ensures, ← bases, ← bytes) c.in_ok-run.ensures.exact) c.in_err-begin_fde.ensures.room in
    rw (covered, needs) refl

-- no row is remembered where none of the CIE's instructions needs room
pub returns-clause-room : goal.returns-clause-room
unfolding row_needs_room
returns-clause-room g c = λ out.
    let covered = sym c.covers.ensures ∙ c.if-not-covers.false in
    let of_cie = instructions_of_cie c.args.section.now c.args.fde.now.cie in
    let bases = ap (λ (s : Section). s.bases) c.section.view_is in
    let bytes = c.front-bytes.ensures ∙ ap (λ (s : Section). take c.args.fde.now.cie.end s.bytes) c.section.view_is in
    let later = c.front-bytes-2.ensures ∙ ap (λ (s : Section). take c.args.fde.now.end s.bytes) c.section.view_is in
    elim (cases_Bool (list_needs_room of_cie c.args.fde.now.cie.instructions 0)) [
      | inl needs ↦ rw (covered, needs) refl
      | inr none ↦
          let bare = rows-need of_cie g.S.UnwindContextStorage.limits c.args.fde.now.cie.instructions 0 c.run.new.self
          (rw (← c.clear.ensures, ← bases, ← bytes) c.in_ok-run.ensures.exact) none in
          let begins : c.begin_fde.new.self.remembered ≡ [] = rw c.in_ok-begin_fde.ensures.ok bare in
          rw (covered, none, ← bases, ← later) (c.run-2.ensures.room out begins)
    ]
