use Rattle.std.proofs.Common.{not, ap, sym, ◌∙◌, subst, ⊎_elim}
use Rattle.framehop.specs.Outcome.{answer_of, registers_after}
use Rattle.framehop.specs.CodeAddress.{location_of, lookup_address}
use Rattle.framehop_cache.specs.Cache.{CacheView}
use Rattle.framehop.specs.Soundness.{Extends, MayTakeMemory}
use Rattle.framehop_core.proofs.Callback.{Answering-so, Answering-over}
use Rattle.framehop.proofs.SoundnessLemmas.{cache_after-hit, cache_after-miss, cache_after_lookup-miss, missed, step-hit, step-at, fresh-at, Extends-after, Extends-same, IsSound-extended, out-or-not}
use Rattle.framehop.proofs.MeaningLemmas.{answer-means}
use Rattle.framehop.proofs.unwinder_internal.UnwinderInternalUnwinder.unwind_frame.Goals as goal

pub returns-in-Hit-clause-cached : goal.returns-in-Hit-clause-cached
returns-in-Hit-clause-cached g c = λ other.
    let found = c.lookup_rule.ensures in
    cache_after-hit (g.A.Unwinding.unwinding g.P.AllocationPolicy.policy) c.args.self.now c.args.cache.now (location_of c.args.address) c.lookup_rule.new.cache c.in-Hit.rule found.kept found.stats (sym found.answer ∙ c.in-Hit.is)

pub returns-in-Hit-clause-answers : goal.returns-in-Hit-clause-answers
returns-in-Hit-clause-answers g c = λ sound.
    Answering-so g.F.FnMut c.exec.ensures.answers (λ memory ran.
    let policy = g.P.AllocationPolicy.policy in
    let kind = ap not c.is_return_address-is_first_frame.ensures in
    let stepped =
    ap (λ outcome. outcome c.in-Hit.rule (not c.is_return_address-is_first_frame.result) c.args.regs.now memory) (sym (g.met.A.Unwinding.outcome_is policy))
    ∙ ap (λ first. (g.A.Unwinding.unwinding policy).outcome c.in-Hit.rule first c.args.regs.now memory) kind
    ∙ step-hit (g.A.Unwinding.unwinding policy) c.args.self.now c.args.cache.now (location_of c.args.address) c.in-Hit.rule c.args.regs.now memory sound (sym c.lookup_rule.ensures.answer ∙ c.in-Hit.is) in
    λ other. (ran.0 ∙ ap answer_of stepped, ran.1 ∙ ap (registers_after c.args.regs.now) stepped))

pub returns-in-Miss-clause-may_run_out : goal.returns-in-Miss-clause-may_run_out
returns-in-Miss-clause-may_run_out g c = λ out. record {
  missed = missed (g.A.Unwinding.unwinding g.P.AllocationPolicy.policy) c.args.self.now c.args.cache.now (location_of c.args.address) c.in-Miss.handle (sym c.lookup_rule.ensures.answer ∙ c.in-Miss.is);
  may = subst (λ first. MayTakeMemory (g.A.Unwinding.unwinding g.P.AllocationPolicy.policy) c.args.self.now.modules (lookup_address (location_of c.args.address)) first) (ap not c.is_return_address-is_first_frame.ensures)
      (subst (λ address. MayTakeMemory (g.A.Unwinding.unwinding g.P.AllocationPolicy.policy) c.args.self.now.modules address (not c.is_return_address-is_first_frame.result)) c.address_for_lookup.ensures (c.unwind_uncached.ensures.may_run_out out));
}

pub returns-in-Miss-clause-cached : goal.returns-in-Miss-clause-cached
returns-in-Miss-clause-cached g c = λ some.
    let looked = c.lookup_rule.ensures in
    let unwinding = g.A.Unwinding.unwinding g.P.AllocationPolicy.policy in
    cache_after-miss unwinding c.args.self.now c.args.cache.now (location_of c.args.address) c.lookup_rule.new.cache c.unwind_uncached.new.cache c.in-Miss.handle _ looked.kept looked.stats (sym looked.answer ∙ c.in-Miss.is) (fresh-at unwinding c.args.self.now.modules (location_of c.args.address) _ _ c.address_for_lookup.ensures (ap not c.is_return_address-is_first_frame.ensures)) (c.unwind_uncached.ensures.stored some)

pub returns-in-Miss-clause-not_cached : goal.returns-in-Miss-clause-not_cached
returns-in-Miss-clause-not_cached g c = λ out.
    let looked = c.lookup_rule.ensures in
    let same = c.unwind_uncached.ensures.not_stored out in
    cache_after_lookup-miss (g.A.Unwinding.unwinding g.P.AllocationPolicy.policy) c.args.self.now c.args.cache.now (location_of c.args.address) c.unwind_uncached.new.cache (ap (λ (cache : CacheView g.row.A-UnwindRule.Denot). cache.sets) same ∙ looked.kept) (ap (λ (cache : CacheView g.row.A-UnwindRule.Denot). cache.stats) same ∙ looked.stats)

pub returns-in-Miss-clause-extends : goal.returns-in-Miss-clause-extends
returns-in-Miss-clause-extends g c =
    let unwinding = g.A.Unwinding.unwinding g.P.AllocationPolicy.policy in
    ⊎_elim
    (λ out. Extends-same unwinding c.args.self.now c.args.cache.now (location_of c.args.address) c.unwind_uncached.new.cache.sets (ap (λ (cache : CacheView g.row.A-UnwindRule.Denot). cache.sets) (c.unwind_uncached.ensures.not_stored out) ∙ c.lookup_rule.ensures.kept))
    (λ some. subst (λ (cache : CacheView g.row.A-UnwindRule.Denot). Extends unwinding c.args.self.now c.args.cache.now.sets cache.sets) (sym (returns-in-Miss-clause-cached g c some))
    (Extends-after unwinding c.args.self.now c.args.cache.now (location_of c.args.address)))
    (out-or-not c.unwind_uncached.result)

pub returns-in-Miss-clause-stays_sound : goal.returns-in-Miss-clause-stays_sound
returns-in-Miss-clause-stays_sound g c = λ other apart sound.
    IsSound-extended (g.A.Unwinding.unwinding g.P.AllocationPolicy.policy) c.args.self.now other c.args.cache.now.sets c.unwind_uncached.new.cache.sets apart (returns-in-Miss-clause-extends g c) sound

pub returns-in-Miss-clause-answers : goal.returns-in-Miss-clause-answers
returns-in-Miss-clause-answers g c = λ sound.
    Answering-so g.F.FnMut c.unwind_uncached.ensures.answers (λ memory ran.
    let unwinding = g.A.Unwinding.unwinding g.P.AllocationPolicy.policy in
    let stepped = step-at unwinding c.args.self.now.modules (location_of c.args.address) _ _ c.args.regs.now memory c.address_for_lookup.ensures (ap not c.is_return_address-is_first_frame.ensures) in
    λ some. (let told = ran some in (told.0 ∙ ap answer_of stepped, told.1 ∙ ap (registers_after c.args.regs.now) stepped)))

pub returns-in-Hit-clause-means : goal.returns-in-Hit-clause-means
returns-in-Hit-clause-means g c = λ memory answers sound.
    let policy = g.P.AllocationPolicy.policy in
    answer-means c.exec.result _ c.args.regs.now c.exec.new.regs _ (Answering-over g.F.FnMut (returns-in-Hit-clause-answers g c sound) memory answers).1
    (λ address e. g.met.A.Unwinding.step_means policy c.args.self.now.modules (location_of c.args.address) c.args.regs.now c.exec.new.regs memory address e)

pub returns-in-Miss-clause-means : goal.returns-in-Miss-clause-means
returns-in-Miss-clause-means g c = λ memory answers sound.
    let policy = g.P.AllocationPolicy.policy in
    answer-means c.unwind_uncached.result _ c.args.regs.now c.unwind_uncached.new.regs _ (Answering-over g.F.FnMut (returns-in-Miss-clause-answers g c sound) memory answers).1
    (λ address e. g.met.A.Unwinding.step_means policy c.args.self.now.modules (location_of c.args.address) c.args.regs.now c.unwind_uncached.new.regs memory address e)
