use Rattle.std.proofs.Common.{◌≡◌, length, Ok, refl, sym, ap, ◌∙◌, arith, rules}
use Rattle.framehop.specs.CodeAddress.{FrameLocation, location_of}
use Rattle.framehop.specs.Outcome.{Outcome}
use Rattle.framehop.specs.Iterator.{location_answer, end_in, frames_in}
use Rattle.framehop.specs.declared.walk.WalkEnd.TheVariants.{Root, Refused}
use Rattle.std.proofs.lemmas.List.{drop-set-lt}
use Rattle.framehop_core.proofs.Callback.{Answering-so, Answering-then, Answering-uncalled}
use Rattle.framehop_lent.proofs.Writing.{drop-more, WritesOn-start, WritesOn-begins, WritesOn-limit, WritesOn-next, WritesOn-ended}
use Rattle.framehop_lent.proofs.walk.next_into.Goals as goal

pub loop-i-init : goal.loop-i-init
loop-i-init g c = (
  search rules,
  refl,
  refl,
  refl,
  refl,
  refl,
  (λ other apart sound. sound),
  λ sound. Answering-uncalled g.F.FnMut (λ memory. WritesOn-start _ _ _ _ _ _),
)

pub returns-in-Ok-None-clause-answers : goal.returns-in-Ok-None-clause-answers
returns-in-Ok-None-clause-answers g c = λ sound.
    let sound_yet : g.U.Unwinder.is_sound (g.U.Unwinder.unwinder_view c.loop-i.unwinding.unwinder.now) c.loop-i.unwinding.cache.now = rw c.loop-i.invariant.1 (c.loop-i.invariant.6 (g.U.Unwinder.unwinder_view c.args.unwinding.now.unwinder.now) (λ same. refl) sound) in
    Answering-then g.F.FnMut (c.loop-i.invariant.7 sound) (rw c.loop-i.invariant.1 at (c.in-Ok-None.ensures.answers sound_yet)) (λ memory before answered.
    let step : FrameLocation → g.row.U-UnwindRegs.Denot → Outcome g.row.U-UnwindRegs.Denot = λ location regs. g.U.Unwinder.step c.args.unwinding.now.unwinder.now location regs memory in
    let called = answered (λ e. cc) in
    let is = ap (λ frame. location_answer (Ok frame)) (sym c.in-Ok-None.field-0-is) ∙ called.0 in
    let cached = rw c.loop-i.invariant.1 at (c.in-Ok-None.ensures.cached (λ e. cc)) in (
      WritesOn-begins step _ _ _ _ _ _ _ _ _ before (length c.args.frames.now) (omega arith),
      λ out. cc,
      λ fine. WritesOn-ended step (g.U.Unwinder.cache_after c.args.unwinding.now.unwinder.now) _ _ _ _ _ _ _ _ before _ _ _ called.1 called.2 cached (length c.args.frames.now) (omega arith) Root (ap end_in is) (ap frames_in is),
    ))

pub returns-in-Err-clause-answers : goal.returns-in-Err-clause-answers
returns-in-Err-clause-answers g c = λ sound.
    let sound_yet : g.U.Unwinder.is_sound (g.U.Unwinder.unwinder_view c.loop-i.unwinding.unwinder.now) c.loop-i.unwinding.cache.now = rw c.loop-i.invariant.1 (c.loop-i.invariant.6 (g.U.Unwinder.unwinder_view c.args.unwinding.now.unwinder.now) (λ same. refl) sound) in
    Answering-then g.F.FnMut (c.loop-i.invariant.7 sound) (rw c.loop-i.invariant.1 at (c.in-Err.ensures.answers sound_yet)) (λ memory before answered.
    let step : FrameLocation → g.row.U-UnwindRegs.Denot → Outcome g.row.U-UnwindRegs.Denot = λ location regs. g.U.Unwinder.step c.args.unwinding.now.unwinder.now location regs memory in (
      WritesOn-begins step _ _ _ _ _ _ _ _ _ before (length c.args.frames.now) (omega arith),
      (λ out.
          let kept = c.in-Err.ensures.after_error.1 (λ null. cc) in
          rw kept (WritesOn-limit step (g.U.Unwinder.cache_after c.args.unwinding.now.unwinder.now) _ _ _ _ _ _ _ _ before c.loop-i.i refl).0),
      λ fine.
          let called = answered (λ e. fine (let same = e in cc)) in
          let cached = rw c.loop-i.invariant.1 at (c.in-Err.ensures.cached (λ e. fine (let same = e in cc))) in
          WritesOn-ended step (g.U.Unwinder.cache_after c.args.unwinding.now.unwinder.now) _ _ _ _ _ _ _ _ before _ _ _ called.1 called.2 cached (length c.args.frames.now) (omega arith) (Refused c.in-Err.error) (ap end_in called.0) (ap frames_in called.0),
    ))

pub loop-i-preserved : goal.loop-i-preserved
loop-i-preserved g c = (
  search rules,
  search rules,
  search rules,
  search rules,
  search rules,
  search (rules, drop-set-lt, drop-more c.loop-i.frames c.args.frames.now c.loop-i.i c.loop-i.invariant.5),
  search rules,
  λ sound.
      let sound_yet : g.U.Unwinder.is_sound (g.U.Unwinder.unwinder_view c.loop-i.unwinding.unwinder.now) c.loop-i.unwinding.cache.now = rw c.loop-i.invariant.1 (c.loop-i.invariant.6 (g.U.Unwinder.unwinder_view c.args.unwinding.now.unwinder.now) (λ same. refl) sound) in
      Answering-then g.F.FnMut (c.loop-i.invariant.7 sound) (rw c.loop-i.invariant.1 at (c.in-Ok-Some.ensures.answers sound_yet)) (λ memory before answered.
      let step : FrameLocation → g.row.U-UnwindRegs.Denot → Outcome g.row.U-UnwindRegs.Denot = λ location regs. g.U.Unwinder.step c.args.unwinding.now.unwinder.now location regs memory in
      let called = answered (λ e. cc) in
      let is = ap (λ frame. location_answer (Ok frame)) (sym c.in-Ok-Some.field-0-is) ∙ called.0 in
      let cached = rw c.loop-i.invariant.1 at (c.in-Ok-Some.ensures.cached (λ e. cc)) in
      rw c.address.ensures (WritesOn-next step (g.U.Unwinder.cache_after c.args.unwinding.now.unwinder.now) _ _ _ _ _ _ _ _ before _ _ _ called.1 called.2 cached (location_of c.in-Ok-Some.frame) is (omega (arith, c.loop-i.invariant.4)))),
)

pub returns-clause-answers : goal.returns-clause-answers
returns-clause-answers g c = λ sound.
    let all : c.loop-i.i ≡ length c.loop-i.frames = omega arith in
    Answering-so g.F.FnMut (c.loop-i.invariant.7 sound) (λ memory before.
    let step : FrameLocation → g.row.U-UnwindRegs.Denot → Outcome g.row.U-UnwindRegs.Denot = λ location regs. g.U.Unwinder.step c.args.unwinding.now.unwinder.now location regs memory in
    let written = rw all at before in (
      WritesOn-begins step (g.U.Unwinder.cache_after c.args.unwinding.now.unwinder.now) _ _ _ _ _ _ _ _ written (length c.args.frames.now) (omega (arith, c.loop-i.invariant.4)),
      λ out. cc,
      λ fine. WritesOn-limit step (g.U.Unwinder.cache_after c.args.unwinding.now.unwinder.now) _ _ _ _ _ _ _ _ written (length c.args.frames.now) c.loop-i.invariant.4,
    ))
