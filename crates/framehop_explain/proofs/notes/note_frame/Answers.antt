use Rattle.std.proofs.Common.{◌∙◌, ap, option_map, rules}
use Rattle.framehop_core.specs.CodeAddress.{location_of}
use Rattle.framehop_core.specs.Outcome.{Outcome, answer_of}
use Rattle.framehop.specs.CachedWorld.{step_of}
use Rattle.framehop_explain.specs.Callers.{caller_by}
use Rattle.framehop_explain.specs.Found.{finding_of}
use Rattle.framehop_explain.proofs.notes.note_frame.Goals as goal

pub returns-clause-note : goal.returns-clause-note
returns-clause-note g c = (
  c.in_ok-note.note,
  (option_map finding_of c.in_ok-explanation.explanation.finding, c.in_ok-explanation.ensures.found, rw c.modules.ensures at c.in_ok-note.ensures),
  search rules,
)

pub returns-clause-caller : goal.returns-clause-caller
returns-clause-caller g c =
    let memory = g.M.Words.memory c.args.memory.now in
    let step : Outcome g.row.A-UnwindRegs.Denot = step_of (g.A.Unwinding.unwinding g.P.AllocationPolicy.policy) c.args.unwinder.now memory (location_of c.args.address) c.args.regs in
    let explained = c.in_ok-explanation.ensures.outcome in
    c.caller.ensures
    ∙ ap (λ returned. caller_by returned c.in_ok-explanation.explanation.regs) explained.0
    ∙ ap (λ after. caller_by (answer_of step) after) explained.1
