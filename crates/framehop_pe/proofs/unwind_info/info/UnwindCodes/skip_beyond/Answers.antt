use Rattle.std.proofs.Common.{◌||◌, sym, ◌∙◌, ap}
use Rattle.framehop_pe.specs.Codes.{read_codes}
use Rattle.framehop_pe.specs.Info.{from_first, skips_frame}
use Rattle.framehop_pe.proofs.CodeLists.{read_codes-more, read_codes-front, read_codes-none, skipped-none, skipped-more, skipped-end}
use Rattle.framehop_pe.proofs.unwind_info.info.UnwindCodes.skip_beyond.Goals as goal

pub loop-code-preserved : goal.loop-code-preserved
loop-code-preserved c =
    let codes = c.loop-code.self in
    let more = read_codes-more codes.has_frame_register codes.bytes.now c.skip_bytes-self.result.now c.in-Some.code c.in-Some.size c.in-Some.ensures.exact c.in-Some.ensures.within c.skip_bytes-self.ensures in
    let now = ap (λ b. c.loop-code.skips_frame || b) c.sets_frame-skips_frame.ensures in
    skipped-more c.args.offset c.in-Some.code _ _ _ c.loop-code.skips_frame _ c.from.result more c.from.ensures c.if-from-offset.false now c.loop-code.invariant.0 c.loop-code.invariant.1

pub returns-then-from-offset-clause-left : goal.returns-then-from-offset-clause-left
returns-then-from-offset-clause-left c =
    let codes = c.loop-code.self in
    let more = read_codes-front codes.has_frame_register codes.bytes.now c.in-Some.code c.in-Some.size c.in-Some.ensures.exact c.in-Some.ensures.within in
    (skipped-end c.args.offset c.in-Some.code _ _ _ c.loop-code.skips_frame c.from.result more c.from.ensures c.if-from-offset.true c.loop-code.invariant.0 c.loop-code.invariant.1).0

pub returns-then-from-offset-clause-frame : goal.returns-then-from-offset-clause-frame
returns-then-from-offset-clause-frame c =
    let codes = c.loop-code.self in
    let more = read_codes-front codes.has_frame_register codes.bytes.now c.in-Some.code c.in-Some.size c.in-Some.ensures.exact c.in-Some.ensures.within in
    (skipped-end c.args.offset c.in-Some.code _ _ _ c.loop-code.skips_frame c.from.result more c.from.ensures c.if-from-offset.true c.loop-code.invariant.0 c.loop-code.invariant.1).1

pub returns-in_default-clause-left : goal.returns-in_default-clause-left
returns-in_default-clause-left c =
    let codes = c.loop-code.self in
    let none = read_codes-none codes.has_frame_register codes.bytes.now c.in_default.ensures.exact in
    none ∙ ap (from_first c.args.offset) (sym none) ∙ c.loop-code.invariant.0

pub returns-in_default-clause-frame : goal.returns-in_default-clause-frame
returns-in_default-clause-frame c =
    let codes = c.loop-code.self in
    let none = read_codes-none codes.has_frame_register codes.bytes.now c.in_default.ensures.exact in
    skipped-none c.loop-code.skips_frame (skips_frame c.args.offset (read_codes codes.has_frame_register 0 codes.bytes.now).0) _ (ap (skips_frame c.args.offset) none) c.loop-code.invariant.1
