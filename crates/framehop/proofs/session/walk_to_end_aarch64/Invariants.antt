use Rattle.std.proofs.Common.{◌≡◌, ℕ, ◌+◌, map, length}
use Rattle.framehop.specs.Memory.{Answering}
use Rattle.framehop.specs.CodeAddress.{location_of}
use Rattle.framehop.specs.Iterator.{before, progress_of}
use Rattle.framehop.specs.Modules.{UnwinderView}
use Rattle.framehop.specs.Soundness.{AreApart}
use Rattle.framehop.specs.Aarch64.{aarch64_step, aarch64_cache_after, IsSoundAarch64}
use Rattle.framehop.proofs.WalkLemmas.{WalksOn}
use Rattle.framehop.proofs.EndingLemmas.{calls_left, StillEnds}
use Rattle.framehop.proofs.session.walk_to_end_aarch64.Given as goal

-- how many calls can still follow
abbrev pub decreases-loop-unwinding : goal.decreases-loop-unwinding
decreases-loop-unwinding g l = calls_left (progress_of l.unwinding.state) l.unwinding.regs

abbrev pub invariant-loop-unwinding : goal.invariant-loop-unwinding
invariant-loop-unwinding g l =
    goal.F-IsAlwaysCallable g l.unwinding.read_stack.now
    × (l.unwinding.unwinder.now ≡ l.fn.unwinder)
    × (l.unwinding.cache.ghost_name ≡ l.initial.unwinding.cache.ghost_name)
    × (l.unwinding.read_stack.ghost_name ≡ l.initial.unwinding.read_stack.ghost_name)
    × ((other : UnwinderView) → AreApart l.fn.unwinder other → IsSoundAarch64 g.P.AllocationPolicy.policy other l.fn.cache.0
    → IsSoundAarch64 g.P.AllocationPolicy.policy other l.unwinding.cache.now.0)
    × StillEnds l.frames.items (progress_of l.unwinding.state) l.unwinding.regs
    × (IsSoundAarch64 g.P.AllocationPolicy.policy l.fn.unwinder l.fn.cache.0
    → Answering g.F.FnMut l.fn.read_stack l.unwinding.read_stack.now (λ memory. (left : ℕ) → WalksOn (aarch64_step g.P.AllocationPolicy.policy l.fn.unwinder memory) (aarch64_cache_after g.P.AllocationPolicy.policy l.fn.unwinder)
    (map location_of l.frames.items) left (length l.frames.items + left)
    (progress_of l.unwinding.state) (before l.fn.pc)
    l.unwinding.regs l.fn.regs l.unwinding.cache.now l.fn.cache))
