use Rattle.std.proofs.Common.{◌≡◌, ◌≤◌, ◌-◌, length, take, drop}
use Rattle.framehop.specs.CodeAddress.{location_of}
use Rattle.framehop.specs.Iterator.{at_frame}
use Rattle.framehop.specs.Memory.{Memory}
use Rattle.framehop.specs.Modules.{UnwinderView}
use Rattle.framehop.specs.Soundness.{AreApart}
use Rattle.framehop_lent.specs.Window.{AgreesWith}
use Rattle.framehop_lent.proofs.Writing.{WritesOn}
use Rattle.framehop_lent.proofs.walk.walk_on.Given as goal

abbrev pub invariant-loop-i : goal.invariant-loop-i
invariant-loop-i g l =
    (length l.frames ≡ length l.fn.frames)
    × (take l.from l.frames ≡ take l.from l.initial.frames)
    × (drop l.i l.frames ≡ drop l.i l.fn.frames)
    × ((other : UnwinderView) → AreApart (g.U.Unwinder.unwinder_view l.fn.unwinder) other
    → g.U.Unwinder.is_sound other l.fn.cache → g.U.Unwinder.is_sound other l.cache)
    × (g.U.Unwinder.is_sound (g.U.Unwinder.unwinder_view l.fn.unwinder) l.fn.cache
    → (memory : Memory) → AgreesWith l.fn.windows memory
    → WritesOn (λ location regs. g.U.Unwinder.step l.fn.unwinder location regs memory) (g.U.Unwinder.cache_after l.fn.unwinder)
    l.frames l.i (at_frame (location_of l.callee)) (at_frame (location_of l.fn.callee)) l.regs l.fn.regs l.cache l.fn.cache)
    × (l.around.windows.now ≡ l.fn.windows)

abbrev pub invariant-loop-from : goal.invariant-loop-from
invariant-loop-from g l =
    (length l.frames ≡ length l.fn.frames)
    × (l.from ≤ length l.frames)
    × (drop l.from l.frames ≡ drop l.from l.fn.frames)
    × ((other : UnwinderView) → AreApart (g.U.Unwinder.unwinder_view l.fn.unwinder) other
    → g.U.Unwinder.is_sound other l.fn.cache → g.U.Unwinder.is_sound other l.cache)
    × (g.U.Unwinder.is_sound (g.U.Unwinder.unwinder_view l.fn.unwinder) l.fn.cache
    → (memory : Memory) → AgreesWith l.fn.windows memory
    → WritesOn (λ location regs. g.U.Unwinder.step l.fn.unwinder location regs memory) (g.U.Unwinder.cache_after l.fn.unwinder)
    l.frames l.from (at_frame (location_of l.callee)) (at_frame (location_of l.fn.callee)) l.regs l.fn.regs l.cache l.fn.cache)
    × (l.around.windows.now ≡ l.fn.windows)

abbrev pub decreases-loop-from : goal.decreases-loop-from
decreases-loop-from g l = length l.initial.frames - l.from
