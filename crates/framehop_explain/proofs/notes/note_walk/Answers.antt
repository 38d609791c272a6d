use Rattle.std.proofs.Common.{◌≡◌, ◌∙◌, ℕ, ◌-◌, List, [], ◌∷◌, ◌++◌, Some, option_map, ap, sym, subst, append_assoc, append-nil, rules, arith}
use Rattle.std.specs.List.{AllZip}
use Rattle.framehop_core.specs.CodeAddress.{FrameLocation, location_of, at_instruction_pointer}
use Rattle.framehop_core.specs.Outcome.{Outcome}
use Rattle.framehop.specs.CachedWorld.{step_of}
use Rattle.framehop_explain.specs.Callers.{frames_from, located}
use Rattle.framehop_explain.specs.Found.{Explaining, explaining_by}
use Rattle.framehop_explain.specs.FrameNotes.{IsFrameNote}
use Rattle.framehop_explain.proofs.CallerLemmas.{AreNoted, walk-frames, noted-next, noted-none, noted-end, noted-count}
use Rattle.framehop_explain.proofs.notes.note_walk.Goals as goal

pub loop-number-init : goal.loop-number-init
loop-number-init g c =
    let step : FrameLocation → g.row.A-UnwindRegs.Denot → Outcome g.row.A-UnwindRegs.Denot = step_of (g.A.Unwinding.unwinding g.P.AllocationPolicy.policy) c.args.unwinder.now (g.M.Words.memory c.args.memory.now) in
    let explaining : Explaining g.row.A-UnwindRule.Denot g.row.A-UnwindRegs.Denot = explaining_by g.A.Unwinding.readers g.A.Sources.pe_source (record { by_code = g.A.CompactUnwindInfoUnwinding.by_code; prologue = g.A.InstructionAnalysis.prologue_rule; epilogue = g.A.InstructionAnalysis.epilogue_rule }) g.A.UnwindRule.DescribeRule.rule_text g.A.UnwindRule.UnwindRule.fallback g.P.AllocationPolicy.policy in
    let Is : FrameLocation × g.row.A-UnwindRegs.Denot → List ℕ → Type 0 = λ frame note. IsFrameNote explaining c.args.unwinder.now.modules (g.M.Words.memory c.args.memory.now) frame.0 frame.1 note in
    let all : List (FrameLocation × g.row.A-UnwindRegs.Denot) = frames_from step c.args.limit (Some (at_instruction_pointer c.args.pc, c.args.regs)) in
    let whole : c.args.limit - 0 ≡ c.args.limit = omega arith in
    let P : List (FrameLocation × g.row.A-UnwindRegs.Denot) → Type 0 = λ left. AreNoted Is all left [] in
    let begins = ap (λ n. frames_from step n (Some (location_of c.from_instruction_pointer.result, c.args.regs))) whole
    ∙ ap (λ location. frames_from step c.args.limit (Some (location, c.args.regs))) c.from_instruction_pointer.ensures in
    ([], sym (append-nil c.args.notes.now.items), subst P (sym begins) (λ others are. are))

pub loop-number-preserved : goal.loop-number-preserved
loop-number-preserved g c =
    let step : FrameLocation → g.row.A-UnwindRegs.Denot → Outcome g.row.A-UnwindRegs.Denot = step_of (g.A.Unwinding.unwinding g.P.AllocationPolicy.policy) c.args.unwinder.now (g.M.Words.memory c.args.memory.now) in
    let explaining : Explaining g.row.A-UnwindRule.Denot g.row.A-UnwindRegs.Denot = explaining_by g.A.Unwinding.readers g.A.Sources.pe_source (record { by_code = g.A.CompactUnwindInfoUnwinding.by_code; prologue = g.A.InstructionAnalysis.prologue_rule; epilogue = g.A.InstructionAnalysis.epilogue_rule }) g.A.UnwindRule.DescribeRule.rule_text g.A.UnwindRule.UnwindRule.fallback g.P.AllocationPolicy.policy in
    let Is : FrameLocation × g.row.A-UnwindRegs.Denot → List ℕ → Type 0 = λ frame note. IsFrameNote explaining c.args.unwinder.now.modules (g.M.Words.memory c.args.memory.now) frame.0 frame.1 note in
    let all : List (FrameLocation × g.row.A-UnwindRegs.Denot) = frames_from step c.args.limit (Some (at_instruction_pointer c.args.pc, c.args.regs)) in
    let before = c.loop-number.invariant in
    let noted = c.in_ok-frame.ensures.note in (
      before.0 ++ noted.0 ∷ [],
      noted.2 ∙ ap (λ items. items ++ noted.0 ∷ []) before.1 ∙ append_assoc c.args.notes.now.items before.0 (noted.0 ∷ []),
      noted-next Is step all before.0 noted.0 c.loop-number._number c.args.limit (located c.in-Some.current) (option_map located c.loop-number.frame) (option_map located c.in_ok-frame.frame)
          c.loop-number-test.true (ap (λ f. option_map located f) c.in-Some.is) c.in_ok-frame.ensures.caller noted.1 before.2,
    )

pub returns-in_err-frame-clause-frames : goal.returns-in_err-frame-clause-frames
returns-in_err-frame-clause-frames g c =
    let step : FrameLocation → g.row.A-UnwindRegs.Denot → Outcome g.row.A-UnwindRegs.Denot = step_of (g.A.Unwinding.unwinding g.P.AllocationPolicy.policy) c.args.unwinder.now (g.M.Words.memory c.args.memory.now) in
    let explaining : Explaining g.row.A-UnwindRule.Denot g.row.A-UnwindRegs.Denot = explaining_by g.A.Unwinding.readers g.A.Sources.pe_source (record { by_code = g.A.CompactUnwindInfoUnwinding.by_code; prologue = g.A.InstructionAnalysis.prologue_rule; epilogue = g.A.InstructionAnalysis.epilogue_rule }) g.A.UnwindRule.DescribeRule.rule_text g.A.UnwindRule.UnwindRule.fallback g.P.AllocationPolicy.policy in
    let Is : FrameLocation × g.row.A-UnwindRegs.Denot → List ℕ → Type 0 = λ frame note. IsFrameNote explaining c.args.unwinder.now.modules (g.M.Words.memory c.args.memory.now) frame.0 frame.1 note in
    let all : List (FrameLocation × g.row.A-UnwindRegs.Denot) = frames_from step c.args.limit (Some (at_instruction_pointer c.args.pc, c.args.regs)) in
    walk-frames step c.args.limit c.args.pc c.args.regs

pub returns-in_default : goal.returns-in_default
returns-in_default g c =
    let step : FrameLocation → g.row.A-UnwindRegs.Denot → Outcome g.row.A-UnwindRegs.Denot = step_of (g.A.Unwinding.unwinding g.P.AllocationPolicy.policy) c.args.unwinder.now (g.M.Words.memory c.args.memory.now) in
    let explaining : Explaining g.row.A-UnwindRule.Denot g.row.A-UnwindRegs.Denot = explaining_by g.A.Unwinding.readers g.A.Sources.pe_source (record { by_code = g.A.CompactUnwindInfoUnwinding.by_code; prologue = g.A.InstructionAnalysis.prologue_rule; epilogue = g.A.InstructionAnalysis.epilogue_rule }) g.A.UnwindRule.DescribeRule.rule_text g.A.UnwindRule.UnwindRule.fallback g.P.AllocationPolicy.policy in
    let Is : FrameLocation × g.row.A-UnwindRegs.Denot → List ℕ → Type 0 = λ frame note. IsFrameNote explaining c.args.unwinder.now.modules (g.M.Words.memory c.args.memory.now) frame.0 frame.1 note in
    let all : List (FrameLocation × g.row.A-UnwindRegs.Denot) = frames_from step c.args.limit (Some (at_instruction_pointer c.args.pc, c.args.regs)) in
    let before = c.loop-number.invariant in
    let are : AllZip Is all before.0 = noted-none Is step all before.0 (c.args.limit - c.loop-number._number) (option_map located c.loop-number.frame) (ap (λ f. option_map located f) c.in_default.is) before.2 in
    record {
      noted = noted-count Is step c.args.limit c.args.pc c.args.regs c.args.notes.now.items before.0 c.loop-number.notes.items before.1 are;
      notes = (before.0, are, before.1);
      frames = walk-frames step c.args.limit c.args.pc c.args.regs;
    }

pub returns : goal.returns
returns g c =
    let step : FrameLocation → g.row.A-UnwindRegs.Denot → Outcome g.row.A-UnwindRegs.Denot = step_of (g.A.Unwinding.unwinding g.P.AllocationPolicy.policy) c.args.unwinder.now (g.M.Words.memory c.args.memory.now) in
    let explaining : Explaining g.row.A-UnwindRule.Denot g.row.A-UnwindRegs.Denot = explaining_by g.A.Unwinding.readers g.A.Sources.pe_source (record { by_code = g.A.CompactUnwindInfoUnwinding.by_code; prologue = g.A.InstructionAnalysis.prologue_rule; epilogue = g.A.InstructionAnalysis.epilogue_rule }) g.A.UnwindRule.DescribeRule.rule_text g.A.UnwindRule.UnwindRule.fallback g.P.AllocationPolicy.policy in
    let Is : FrameLocation × g.row.A-UnwindRegs.Denot → List ℕ → Type 0 = λ frame note. IsFrameNote explaining c.args.unwinder.now.modules (g.M.Words.memory c.args.memory.now) frame.0 frame.1 note in
    let all : List (FrameLocation × g.row.A-UnwindRegs.Denot) = frames_from step c.args.limit (Some (at_instruction_pointer c.args.pc, c.args.regs)) in
    let before = c.loop-number.invariant in
    let are : AllZip Is all before.0 = noted-end Is step all before.0 c.loop-number._number c.args.limit (option_map located c.loop-number.frame) (search rules) before.2 in
    record {
      noted = noted-count Is step c.args.limit c.args.pc c.args.regs c.args.notes.now.items before.0 c.loop-number.notes.items before.1 are;
      notes = (before.0, are, before.1);
      frames = walk-frames step c.args.limit c.args.pc c.args.regs;
    }
