use Rattle.std.proofs.Common.{◌≡◌, ◌+◌, ◌-◌, length, refl, sym, ◌∙◌, arith, rules}
use Rattle.framehop.specs.CodeAddress.{FrameLocation, location_of}
use Rattle.framehop.specs.Outcome.{Outcome}
use Rattle.std.proofs.lemmas.List.{drop-set-lt, take-set-le}
use Rattle.std.proofs.lemmas.Slice.{take-put_mid_below}
use Rattle.framehop_lent.proofs.Writing.{drop-more, part-kept, put-back, WritesOn-start, WritesOn-limit, WritesOn-next, WritesOn-stopped}
use Rattle.framehop_lent.proofs.walk.walk_on.Goals as goal

pub loop-from-init : goal.loop-from-init
loop-from-init g c = (search rules, search rules, search rules, (λ other apart sound. sound), (λ sound memory agrees. WritesOn-start _ _ _ _ _ _), c.near-around.ensures ∙ c.new-windows.ensures)

pub loop-i-init : goal.loop-i-init
loop-i-init g c = (search rules, refl, search rules, c.loop-from.invariant.3, c.loop-from.invariant.4, c.loop-from.invariant.5)

pub returns-in_default-clause-answers : goal.returns-in_default-clause-answers
returns-in_default-clause-answers g c = λ sound memory agrees.
    let step : FrameLocation → g.row.U-UnwindRegs.Denot → Outcome g.row.U-UnwindRegs.Denot = λ location regs. g.U.Unwinder.step c.args.unwinder.now location regs memory in
    let sound_yet = c.loop-i.invariant.3 (g.U.Unwinder.unwinder_view c.args.unwinder.now) (λ same. refl) sound in
    WritesOn-stopped step (g.U.Unwinder.cache_after c.args.unwinder.now) _ _ _ _ _ _ _ _ (c.loop-i.invariant.4 sound memory agrees) _ _ (length c.args.frames.now) (omega arith)
    c.in-Err.stop (c.in-Err.ensures.answers sound_yet memory (rw c.loop-i.invariant.5 agrees)) (c.in-Err.ensures.kept c.in_default.is) c.in-Err.ensures.cached

pub returns-in-Err-clause-others : goal.returns-in-Err-clause-others
returns-in-Err-clause-others g c =
    let part =
    part-kept c.loop-from.from (c.loop-i.i - c.loop-from.from) (c.loop-from.from + c.min.result) c.loop-from.frames c.args.frames.now c.copy_from_slice.new.self _
    (omega arith) (omega arith) c.copy_from_slice.ensures.after c.loop-from.invariant.2 in
    put-back c.loop-from.from (c.loop-i.i - c.loop-from.from) c.loop-i.i c.loop-i.frames c.args.frames.now _ (omega arith) (omega (arith, c.loop-i.invariant.0)) (c.copy_from_slice-in-Err.ensures.after ∙ part) c.loop-i.invariant.2

pub returns-in-Err-clause-answers : goal.returns-in-Err-clause-answers
returns-in-Err-clause-answers g c = λ sound memory agrees.
    let step : FrameLocation → g.row.U-UnwindRegs.Denot → Outcome g.row.U-UnwindRegs.Denot = λ location regs. g.U.Unwinder.step c.args.unwinder.now location regs memory in
    let walk = (WritesOn-limit step (g.U.Unwinder.cache_after c.args.unwinder.now) _ _ _ _ _ _ _ _ (c.loop-from.invariant.4 sound memory agrees) c.loop-from.from refl).0 in (
      record {
        counted = walk.counted;
        addresses = take-put_mid_below c.loop-from.from (c.loop-i.i - c.loop-from.from) c.loop-i.frames c.copy_from_slice-in-Err.new.self c.loop-from.from (omega arith) (omega (arith, c.loop-i.invariant.0)) ∙ c.loop-i.invariant.1 ∙ walk.addresses;
        ends = walk.ends;
        registers = walk.registers;
      },
      tt,
    )

pub loop-i-preserved : goal.loop-i-preserved
loop-i-preserved g c = (
  search rules,
  take-set-le c.loop-from.from c.loop-i.frames c.loop-i.i _ (omega arith) ∙ c.loop-i.invariant.1,
  search (rules, drop-set-lt, drop-more c.loop-i.frames c.args.frames.now c.loop-i.i c.loop-i.invariant.2),
  search rules,
  (λ sound memory agrees.
      let step : FrameLocation → g.row.U-UnwindRegs.Denot → Outcome g.row.U-UnwindRegs.Denot = λ location regs. g.U.Unwinder.step c.args.unwinder.now location regs memory in
      let sound_yet = c.loop-i.invariant.3 (g.U.Unwinder.unwinder_view c.args.unwinder.now) (λ same. refl) sound in
      let called = c.in-Ok.ensures.answers sound_yet memory (rw c.loop-i.invariant.5 agrees) in
      rw c.address.ensures (WritesOn-next step (g.U.Unwinder.cache_after c.args.unwinder.now) _ _ _ _ _ _ _ _ (c.loop-i.invariant.4 sound memory agrees) _ _ _ (sym called.1) called.2 c.in-Ok.ensures.cached (location_of c.in-Ok.caller) (sym called.0) (omega (arith, c.loop-i.invariant.0)))),
  c.move_by.ensures (c.loop-i.invariant.5 ∙ sym c.new-windows.ensures) ∙ c.new-windows.ensures,
)

pub loop-from-preserved : goal.loop-from-preserved
loop-from-preserved g c =
    let all : c.loop-i.i ≡ c.loop-from.from + c.min.result = omega arith in
    (search rules, search rules, rw all at c.loop-i.invariant.2, c.loop-i.invariant.3, (λ sound memory agrees. rw all at (c.loop-i.invariant.4 sound memory agrees)), c.loop-i.invariant.5)

pub returns-clause-answers : goal.returns-clause-answers
returns-clause-answers g c = λ sound memory agrees.
    let step : FrameLocation → g.row.U-UnwindRegs.Denot → Outcome g.row.U-UnwindRegs.Denot = λ location regs. g.U.Unwinder.step c.args.unwinder.now location regs memory in
    let before = c.loop-from.invariant.4 sound memory agrees in
    let all : c.loop-from.from ≡ length c.loop-from.frames = omega (arith, c.loop-from.invariant.1) in
    let written = rw all at before in
    let walk = WritesOn-limit step (g.U.Unwinder.cache_after c.args.unwinder.now) _ _ _ _ _ _ _ _ written (length c.args.frames.now) c.loop-from.invariant.0 in
    (((λ out. cc), λ fine. walk.0), λ fine. walk.1)
