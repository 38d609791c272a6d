use Rattle.std.proofs.Common.{◌≡◌, ◌+◌, suc, map, length, refl, ap, ◌∙◌, arith, rules}
use Rattle.framehop.specs.World.{walked}
use Rattle.framehop.specs.CachedWorld.{of_world}
use Rattle.framehop.specs.SessionView.{walk_of}
use Rattle.framehop.specs.CodeAddress.{location_of}
use Rattle.framehop.specs.Iterator.{before, progress_of}
use Rattle.framehop.specs.Aarch64.{aarch64_step, aarch64_cache_after, IsSoundAarch64}
use Rattle.framehop_core.proofs.Callback.{Answering-then}
use Rattle.framehop.proofs.WalkLemmas.{Answering-to}
use Rattle.framehop.proofs.WalkLemmas.{WalksOn-next, WalksOn-ended}
use Rattle.framehop.specs.Laws.Aarch64.{always_rises-is, step-means}
use Rattle.framehop.proofs.MeaningLemmas.{walk-meant}
use Rattle.framehop.proofs.EndingLemmas.{StillEnds-next, some-left, ended-not-limit, walk-within}
use Rattle.framehop.proofs.session.walk_to_end_aarch64.Goals as goal

pub loop-unwinding-preserved : goal.loop-unwinding-preserved
loop-unwinding-preserved g c =
    let l = c.loop-unwinding in
    let n = c.push_next_frame.new in
    let sooner = StillEnds-next l.frames.items n.frames.items (progress_of l.unwinding.state) (progress_of n.unwinding.state) l.unwinding.regs n.unwinding.regs c.in_ok-end.field-0 c.in_default.is c.in_ok-end.ensures.moves l.invariant.5 in
    let cached = rw l.invariant.1 at c.in_ok-end.ensures.cached in (
      search rules,
      search rules,
      search rules,
      search rules,
      search rules,
      sooner.still,
      λ sound.
          let still : IsSoundAarch64 g.P.AllocationPolicy.policy l.unwinding.unwinder.now l.unwinding.cache.now.0 = rw l.invariant.1 (l.invariant.4 c.args.unwinder.now (λ same. refl) sound) in
          Answering-then g.F.FnMut (l.invariant.6 sound) (rw l.invariant.1 at (c.in_ok-end.ensures.answers still)) (λ memory so_far called left.
          let total : length l.frames.items + suc left ≡ length n.frames.items + left = omega (arith, sooner.longer) in WalksOn-next
          (aarch64_step g.P.AllocationPolicy.policy c.args.unwinder.now memory) (aarch64_cache_after g.P.AllocationPolicy.policy c.args.unwinder.now) (map location_of l.frames.items) (length n.frames.items + left) (progress_of l.unwinding.state) (before c.args.pc) (progress_of n.unwinding.state) l.unwinding.regs c.args.regs n.unwinding.regs l.unwinding.cache.now c.args.cache.now n.unwinding.cache.now
          called.2 called.3 cached (suc left) left (omega arith) c.in_ok-end.field-0 called.0 c.in_default.is (map location_of n.frames.items) called.1 (rw total at (so_far (suc left)))),
    )

pub returns-in-Some-clause-answers : goal.returns-in-Some-clause-answers
returns-in-Some-clause-answers g c = λ sound.
    let l = c.loop-unwinding in
    let n = c.push_next_frame.new in
    let cached = rw l.invariant.1 at c.in_ok-end.ensures.cached in
    let still : IsSoundAarch64 g.P.AllocationPolicy.policy l.unwinding.unwinder.now l.unwinding.cache.now.0 = rw l.invariant.1 (l.invariant.4 c.args.unwinder.now (λ same. refl) sound) in
    Answering-to g.F.FnMut (Answering-then g.F.FnMut (l.invariant.6 sound) (rw l.invariant.1 at (c.in_ok-end.ensures.answers still)) (λ memory so_far called.
    let walk = WalksOn-ended
    (aarch64_step g.P.AllocationPolicy.policy c.args.unwinder.now memory) (aarch64_cache_after g.P.AllocationPolicy.policy c.args.unwinder.now) (map location_of l.frames.items) (length l.frames.items + 1) (progress_of l.unwinding.state) (before c.args.pc) (progress_of n.unwinding.state) l.unwinding.regs c.args.regs n.unwinding.regs l.unwinding.cache.now c.args.cache.now n.unwinding.cache.now
    called.2 called.3 cached 1 0 (omega arith) c.in_ok-end.field-0 called.0 c.in-Some.end c.in-Some.is (map location_of n.frames.items) called.1 (so_far 1) in
    record {
      limit = length l.frames.items + 1;
      few = omega (arith, l.invariant.5.few, some-left (progress_of l.unwinding.state) l.unwinding.regs l.invariant.5.fits);
      ended = λ limit. ended-not-limit c.in_ok-end.field-0 _ called.0 c.in-Some.end c.in-Some.is (ap (λ w. w.end) walk.0 ∙ limit);
      reply_is = ap (λ w. of_world (walked w)) (ap (walk_of n.frames.items c.in-Some.end) c.regs-regs.ensures ∙ walk.0);
      all_rise = always_rises-is g.P.AllocationPolicy.policy;
      within = walk-within g.P.AllocationPolicy.policy c.args.unwinder.now memory (length l.frames.items + 1) c.args.pc c.args.regs;
      means = walk-meant (aarch64_step g.P.AllocationPolicy.policy c.args.unwinder.now memory) _ (λ location old new address e. (e, step-means g.P.AllocationPolicy.policy c.args.unwinder.now.modules location old new memory address e)) (length l.frames.items + 1) c.args.pc c.args.regs;
      cached = (let last = c.drop-unwinding-in-Some.ensures.cache ∙ walk.1 in search (rules, last));
    })) (search rules)
