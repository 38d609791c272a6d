use Rattle.std.proofs.Common.{◌≡◌, ◌-◌, map}
use Rattle.framehop.specs.Memory.{Answering}
use Rattle.framehop.specs.CodeAddress.{location_of}
use Rattle.framehop.specs.Iterator.{progress_of}
use Rattle.framehop.specs.Modules.{UnwinderView}
use Rattle.framehop.specs.Soundness.{AreApart}
use Rattle.framehop.proofs.WalkLemmas.{WalksOn}
use Rattle.framehop.proofs.walk.next_frames.Given as goal

abbrev pub invariant-loop-call : goal.invariant-loop-call
invariant-loop-call g l =
    goal.F-IsAlwaysCallable g l.unwinding.read_stack.now
    × (l.unwinding.unwinder ≡ l.fn.unwinding.unwinder)
    × (l.unwinding.cache.ghost_name ≡ l.fn.unwinding.cache.ghost_name)
    × (l.unwinding.read_stack.ghost_name ≡ l.fn.unwinding.read_stack.ghost_name)
    × ((other : UnwinderView) → AreApart (g.U.Unwinder.unwinder_view l.fn.unwinding.unwinder.now) other
    → g.U.Unwinder.is_sound other l.fn.unwinding.cache.now → g.U.Unwinder.is_sound other l.unwinding.cache.now)
    × (g.U.Unwinder.is_sound (g.U.Unwinder.unwinder_view l.fn.unwinding.unwinder.now) l.fn.unwinding.cache.now
    → Answering g.F.FnMut l.fn.unwinding.read_stack.now l.unwinding.read_stack.now (λ memory.
    WalksOn (λ location regs. g.U.Unwinder.step l.fn.unwinding.unwinder.now location regs memory) (g.U.Unwinder.cache_after l.fn.unwinding.unwinder.now)
    (map location_of l.frames.items) (l.limit - l._call) l.limit
    (progress_of l.unwinding.state) (progress_of l.fn.unwinding.state)
    l.unwinding.regs l.fn.unwinding.regs l.unwinding.cache.now l.fn.unwinding.cache.now))
