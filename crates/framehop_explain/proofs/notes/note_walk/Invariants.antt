use Rattle.std.proofs.Common.{◌≡◌, ℕ, ◌-◌, ◌++◌, List, Some, option_map}
use Rattle.framehop_core.specs.CodeAddress.{FrameLocation, at_instruction_pointer}
use Rattle.framehop_core.specs.Outcome.{Outcome}
use Rattle.framehop.specs.CachedWorld.{step_of}
use Rattle.framehop_explain.specs.Callers.{frames_from, located}
use Rattle.framehop_explain.specs.Found.{Explaining, explaining_by}
use Rattle.framehop_explain.specs.FrameNotes.{IsFrameNote}
use Rattle.framehop_explain.proofs.CallerLemmas.{AreNoted}
use Rattle.framehop_explain.proofs.notes.note_walk.Given as goal

abbrev pub invariant-loop-number : goal.invariant-loop-number
invariant-loop-number g l =
    let step : FrameLocation → g.row.A-UnwindRegs.Denot → Outcome g.row.A-UnwindRegs.Denot = step_of (g.A.Unwinding.unwinding g.P.AllocationPolicy.policy) l.unwinder (g.M.Words.memory l.memory) in
    let explaining : Explaining g.row.A-UnwindRule.Denot g.row.A-UnwindRegs.Denot = explaining_by g.A.Unwinding.readers g.A.Sources.pe_source (record { by_code = g.A.CompactUnwindInfoUnwinding.by_code; prologue = g.A.InstructionAnalysis.prologue_rule; epilogue = g.A.InstructionAnalysis.epilogue_rule }) g.A.UnwindRule.DescribeRule.rule_text g.A.UnwindRule.UnwindRule.fallback g.P.AllocationPolicy.policy in
    let Is : FrameLocation × g.row.A-UnwindRegs.Denot → List ℕ → Type 0 = λ frame note. IsFrameNote explaining l.unwinder.modules (g.M.Words.memory l.memory) frame.0 frame.1 note in
    (notes : List (List ℕ)) × (l.notes.items ≡ l.fn.notes.items ++ notes)
    × AreNoted Is (frames_from step l.limit (Some (at_instruction_pointer l.pc, l.fn.regs))) (frames_from step (l.limit - l._number) (option_map located l.frame)) notes
