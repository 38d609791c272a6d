use Rattle.std.proofs.Common.{◌+◌, ◌-◌, map, refl, arith, rules}
use Rattle.framehop.specs.CodeAddress.{FrameLocation, location_of}
use Rattle.framehop.specs.Outcome.{Outcome}
use Rattle.framehop.specs.Iterator.{progress_of}
use Rattle.framehop_core.proofs.Callback.{Answering-so, Answering-then}
use Rattle.framehop.proofs.WalkLemmas.{WalksOn-next, WalksOn-ended, WalksOn-limit}
use Rattle.framehop.proofs.walk.next_frames.Goals as goal

pub returns-in-Some-clause-answers : goal.returns-in-Some-clause-answers
returns-in-Some-clause-answers g c = λ sound.
    let l = c.loop-call in
    let n = c.push_next_frame.new in
    let old = c.args.unwinding.now in
    let cached = rw l.invariant.1 at c.in_ok-end.ensures.cached in
    let still : g.U.Unwinder.is_sound (g.U.Unwinder.unwinder_view l.unwinding.unwinder.now) l.unwinding.cache.now = rw l.invariant.1 (l.invariant.4 (g.U.Unwinder.unwinder_view old.unwinder.now) (λ same. refl) sound) in
    Answering-then g.F.FnMut (l.invariant.5 sound) (rw l.invariant.1 at (c.in_ok-end.ensures.answers still)) (λ memory so_far called.
    let step : FrameLocation → g.row.U-UnwindRegs.Denot → Outcome g.row.U-UnwindRegs.Denot = λ location regs. g.U.Unwinder.step old.unwinder.now location regs memory in
    WalksOn-ended
    step (g.U.Unwinder.cache_after old.unwinder.now) (map location_of l.frames.items) c.args.limit (progress_of l.unwinding.state) (progress_of old.state) (progress_of n.unwinding.state) l.unwinding.regs old.regs n.unwinding.regs l.unwinding.cache.now old.cache.now n.unwinding.cache.now
    called.2 called.3 cached (c.args.limit - l._call) (c.args.limit - (l._call + 1)) (omega arith) c.in_ok-end.field-0 called.0 c.in-Some.end c.in-Some.is (map location_of n.frames.items) called.1 so_far)

pub loop-call-preserved : goal.loop-call-preserved
loop-call-preserved g c = (
  search rules,
  search rules,
  search rules,
  search rules,
  search rules,
  λ sound.
      let l = c.loop-call in
      let n = c.push_next_frame.new in
      let old = c.args.unwinding.now in
      let cached = rw l.invariant.1 at c.in_ok-end.ensures.cached in
      let still : g.U.Unwinder.is_sound (g.U.Unwinder.unwinder_view l.unwinding.unwinder.now) l.unwinding.cache.now = rw l.invariant.1 (l.invariant.4 (g.U.Unwinder.unwinder_view old.unwinder.now) (λ same. refl) sound) in
      Answering-then g.F.FnMut (l.invariant.5 sound) (rw l.invariant.1 at (c.in_ok-end.ensures.answers still)) (λ memory so_far called.
      let step : FrameLocation → g.row.U-UnwindRegs.Denot → Outcome g.row.U-UnwindRegs.Denot = λ location regs. g.U.Unwinder.step old.unwinder.now location regs memory in
      WalksOn-next
      step (g.U.Unwinder.cache_after old.unwinder.now) (map location_of l.frames.items) c.args.limit (progress_of l.unwinding.state) (progress_of old.state) (progress_of n.unwinding.state) l.unwinding.regs old.regs n.unwinding.regs l.unwinding.cache.now old.cache.now n.unwinding.cache.now
      called.2 called.3 cached (c.args.limit - l._call) (c.args.limit - (l._call + 1)) (omega arith) c.in_ok-end.field-0 called.0 c.in_default.is (map location_of n.frames.items) called.1 so_far),
)

pub returns-clause-answers : goal.returns-clause-answers
returns-clause-answers g c = λ sound.
    Answering-so g.F.FnMut (c.loop-call.invariant.5 sound) (λ memory so_far.
    WalksOn-limit (λ location regs. g.U.Unwinder.step c.args.unwinding.now.unwinder.now location regs memory) (g.U.Unwinder.cache_after c.args.unwinding.now.unwinder.now) _ _ _ _ _ _ _ _ _ (omega arith) so_far)
