-- An unwinder and a cache of one policy: what the call promises.
use Rattle.std.proofs.Common.{rules, ◌≡◌, ap, to_z, of_z}
use mir.Val.{SFits}
use mir.Syntax.{w32}
use Rattle.std.proofs.lemmas.Int.{to_z-of_z}
use Rattle.framehop.specs.Policy.{with_allocation, without_allocation}
use Rattle.framehop.specs.Aarch64.{aarch64}
use Rattle.framehop_c.proofs.Needed.{looked-up-after, aarch64-needed, aarch64-enough}
use Rattle.framehop_c.proofs.aarch64.next_frame_by.Goals as goal

pub returns-in-CacheAarch64-clause-wrong : goal.returns-in-CacheAarch64-clause-wrong
returns-in-CacheAarch64-clause-wrong c =
    let fits : SFits w32 c.next_frame.result = search rules in
    let same : to_z w32 (of_z w32 c.next_frame.result) ≡ c.next_frame.result = to_z-of_z w32 c.next_frame.result fits in
    rw (c.in-UnwinderAarch64.is, c.in-CacheAarch64.is) (λ wrong. c.next_frame.ensures.other (rw same at wrong))

pub returns-in-CacheAarch64-clause-null : goal.returns-in-CacheAarch64-clause-null
returns-in-CacheAarch64-clause-null c =
    let fits : SFits w32 c.next_frame.result = search rules in
    let same : to_z w32 (of_z w32 c.next_frame.result) ≡ c.next_frame.result = to_z-of_z w32 c.next_frame.result fits in
    rw (c.in-UnwinderAarch64.is, c.in-CacheAarch64.is) (λ null. let all = c.next_frame.ensures.null null in (rw same all.0, ap (λ cache. cache.0) all.2))

pub returns-in-CacheAarch64-clause-may_run_out : goal.returns-in-CacheAarch64-clause-may_run_out
returns-in-CacheAarch64-clause-may_run_out c =
    let fits : SFits w32 c.next_frame.result = search rules in
    let same : to_z w32 (of_z w32 c.next_frame.result) ≡ c.next_frame.result = to_z-of_z w32 c.next_frame.result fits in
    rw (c.in-UnwinderAarch64.is, c.in-CacheAarch64.is) (λ out. c.next_frame.ensures.may_run_out (rw same at out))

pub returns-in-CacheAarch64-clause-looked_up : goal.returns-in-CacheAarch64-clause-looked_up
returns-in-CacheAarch64-clause-looked_up c =
    rw (c.in-UnwinderAarch64.is, c.in-CacheAarch64.is) (λ callee. looked-up-after (aarch64 with_allocation) _ _ _ _ (c.next_frame.ensures.looked_up callee))

pub returns-in-CacheAarch64-clause-stays_sound : goal.returns-in-CacheAarch64-clause-stays_sound
returns-in-CacheAarch64-clause-stays_sound c = rw (c.in-UnwinderAarch64.is, c.in-CacheAarch64.is) c.next_frame.ensures.stays_sound

pub returns-in-CacheAarch64-clause-answers : goal.returns-in-CacheAarch64-clause-answers
returns-in-CacheAarch64-clause-answers c =
    let fits : SFits w32 c.next_frame.result = search rules in
    let same : to_z w32 (of_z w32 c.next_frame.result) ≡ c.next_frame.result = to_z-of_z w32 c.next_frame.result fits in
    λ fine other.
    rw (c.in-UnwinderAarch64.is, c.in-CacheAarch64.is) (λ callee sound memory agrees. rw same (c.next_frame.ensures.answers callee sound (rw same at fine) (rw same at other) memory agrees))

pub returns-in-CacheAarch64-clause-ahead : goal.returns-in-CacheAarch64-clause-ahead
returns-in-CacheAarch64-clause-ahead c =
    let fits : SFits w32 c.next_frame.result = search rules in
    let same : to_z w32 (of_z w32 c.next_frame.result) ≡ c.next_frame.result = to_z-of_z w32 c.next_frame.result fits in
    λ is_ok.
    rw (c.in-UnwinderAarch64.is, c.in-CacheAarch64.is) (λ sound.
    let asked = c.next_frame.ensures.asked sound (rw same at is_ok) in
    let looked = c.next_frame.ensures.looked_up_ahead (rw same at is_ok) in
    (asked.1, aarch64-needed with_allocation _ _ _ _ _ asked.0 asked.1 looked, aarch64-enough with_allocation _ _ _ _ _ asked.0 asked.1 looked asked.2))

pub returns-in-LimitedCacheAarch64-clause-wrong : goal.returns-in-LimitedCacheAarch64-clause-wrong
returns-in-LimitedCacheAarch64-clause-wrong c =
    let fits : SFits w32 c.next_frame-in-LimitedCacheAarch64.result = search rules in
    let same : to_z w32 (of_z w32 c.next_frame-in-LimitedCacheAarch64.result) ≡ c.next_frame-in-LimitedCacheAarch64.result = to_z-of_z w32 c.next_frame-in-LimitedCacheAarch64.result fits in
    rw (c.in-LimitedUnwinderAarch64.is, c.in-LimitedCacheAarch64.is) (λ wrong. c.next_frame-in-LimitedCacheAarch64.ensures.other (rw same at wrong))

pub returns-in-LimitedCacheAarch64-clause-null : goal.returns-in-LimitedCacheAarch64-clause-null
returns-in-LimitedCacheAarch64-clause-null c =
    let fits : SFits w32 c.next_frame-in-LimitedCacheAarch64.result = search rules in
    let same : to_z w32 (of_z w32 c.next_frame-in-LimitedCacheAarch64.result) ≡ c.next_frame-in-LimitedCacheAarch64.result = to_z-of_z w32 c.next_frame-in-LimitedCacheAarch64.result fits in
    rw (c.in-LimitedUnwinderAarch64.is, c.in-LimitedCacheAarch64.is) (λ null. let all = c.next_frame-in-LimitedCacheAarch64.ensures.null null in (rw same all.0, ap (λ cache. cache.0) all.2))

pub returns-in-LimitedCacheAarch64-clause-may_run_out : goal.returns-in-LimitedCacheAarch64-clause-may_run_out
returns-in-LimitedCacheAarch64-clause-may_run_out c =
    let fits : SFits w32 c.next_frame-in-LimitedCacheAarch64.result = search rules in
    let same : to_z w32 (of_z w32 c.next_frame-in-LimitedCacheAarch64.result) ≡ c.next_frame-in-LimitedCacheAarch64.result = to_z-of_z w32 c.next_frame-in-LimitedCacheAarch64.result fits in
    rw (c.in-LimitedUnwinderAarch64.is, c.in-LimitedCacheAarch64.is) (λ out. c.next_frame-in-LimitedCacheAarch64.ensures.may_run_out (rw same at out))

pub returns-in-LimitedCacheAarch64-clause-looked_up : goal.returns-in-LimitedCacheAarch64-clause-looked_up
returns-in-LimitedCacheAarch64-clause-looked_up c =
    rw (c.in-LimitedUnwinderAarch64.is, c.in-LimitedCacheAarch64.is) (λ callee. looked-up-after (aarch64 without_allocation) _ _ _ _ (c.next_frame-in-LimitedCacheAarch64.ensures.looked_up callee))

pub returns-in-LimitedCacheAarch64-clause-stays_sound : goal.returns-in-LimitedCacheAarch64-clause-stays_sound
returns-in-LimitedCacheAarch64-clause-stays_sound c = rw (c.in-LimitedUnwinderAarch64.is, c.in-LimitedCacheAarch64.is) c.next_frame-in-LimitedCacheAarch64.ensures.stays_sound

pub returns-in-LimitedCacheAarch64-clause-answers : goal.returns-in-LimitedCacheAarch64-clause-answers
returns-in-LimitedCacheAarch64-clause-answers c =
    let fits : SFits w32 c.next_frame-in-LimitedCacheAarch64.result = search rules in
    let same : to_z w32 (of_z w32 c.next_frame-in-LimitedCacheAarch64.result) ≡ c.next_frame-in-LimitedCacheAarch64.result = to_z-of_z w32 c.next_frame-in-LimitedCacheAarch64.result fits in
    λ fine other.
    rw (c.in-LimitedUnwinderAarch64.is, c.in-LimitedCacheAarch64.is) (λ callee sound memory agrees. rw same (c.next_frame-in-LimitedCacheAarch64.ensures.answers callee sound (rw same at fine) (rw same at other) memory agrees))

pub returns-in-LimitedCacheAarch64-clause-ahead : goal.returns-in-LimitedCacheAarch64-clause-ahead
returns-in-LimitedCacheAarch64-clause-ahead c =
    let fits : SFits w32 c.next_frame-in-LimitedCacheAarch64.result = search rules in
    let same : to_z w32 (of_z w32 c.next_frame-in-LimitedCacheAarch64.result) ≡ c.next_frame-in-LimitedCacheAarch64.result = to_z-of_z w32 c.next_frame-in-LimitedCacheAarch64.result fits in
    λ is_ok.
    rw (c.in-LimitedUnwinderAarch64.is, c.in-LimitedCacheAarch64.is) (λ sound.
    let asked = c.next_frame-in-LimitedCacheAarch64.ensures.asked sound (rw same at is_ok) in
    let looked = c.next_frame-in-LimitedCacheAarch64.ensures.looked_up_ahead (rw same at is_ok) in
    (asked.1, aarch64-needed without_allocation _ _ _ _ _ asked.0 asked.1 looked, aarch64-enough without_allocation _ _ _ _ _ asked.0 asked.1 looked asked.2))

pub returns-in-CacheAarch64-clause-null_kept : goal.returns-in-CacheAarch64-clause-null_kept
returns-in-CacheAarch64-clause-null_kept c = λ null. (c.next_frame.ensures.null null).1

pub returns-in-LimitedCacheAarch64-clause-null_kept : goal.returns-in-LimitedCacheAarch64-clause-null_kept
returns-in-LimitedCacheAarch64-clause-null_kept c = λ null. (c.next_frame-in-LimitedCacheAarch64.ensures.null null).1

pub returns-in-CacheAarch64-clause-looked_up_ahead : goal.returns-in-CacheAarch64-clause-looked_up_ahead
returns-in-CacheAarch64-clause-looked_up_ahead c =
    let fits : SFits w32 c.next_frame.result = search rules in
    let same : to_z w32 (of_z w32 c.next_frame.result) ≡ c.next_frame.result = to_z-of_z w32 c.next_frame.result fits in
    λ is_ok.
    rw (c.in-UnwinderAarch64.is, c.in-CacheAarch64.is) (looked-up-after (aarch64 with_allocation) _ _ _ _ (c.next_frame.ensures.looked_up_ahead (rw same at is_ok)))

pub returns-in-LimitedCacheAarch64-clause-looked_up_ahead : goal.returns-in-LimitedCacheAarch64-clause-looked_up_ahead
returns-in-LimitedCacheAarch64-clause-looked_up_ahead c =
    let fits : SFits w32 c.next_frame-in-LimitedCacheAarch64.result = search rules in
    let same : to_z w32 (of_z w32 c.next_frame-in-LimitedCacheAarch64.result) ≡ c.next_frame-in-LimitedCacheAarch64.result = to_z-of_z w32 c.next_frame-in-LimitedCacheAarch64.result fits in
    λ is_ok.
    rw (c.in-LimitedUnwinderAarch64.is, c.in-LimitedCacheAarch64.is) (looked-up-after (aarch64 without_allocation) _ _ _ _ (c.next_frame-in-LimitedCacheAarch64.ensures.looked_up_ahead (rw same at is_ok)))

pub returns-in-CacheAarch64-clause-nothing : goal.returns-in-CacheAarch64-clause-nothing
returns-in-CacheAarch64-clause-nothing c =
    let fits : SFits w32 c.next_frame.result = search rules in
    let same : to_z w32 (of_z w32 c.next_frame.result) ≡ c.next_frame.result = to_z-of_z w32 c.next_frame.result fits in
    λ right other. c.next_frame.ensures.nothing (rw same at other)

pub returns-in-LimitedCacheAarch64-clause-nothing : goal.returns-in-LimitedCacheAarch64-clause-nothing
returns-in-LimitedCacheAarch64-clause-nothing c =
    let fits : SFits w32 c.next_frame-in-LimitedCacheAarch64.result = search rules in
    let same : to_z w32 (of_z w32 c.next_frame-in-LimitedCacheAarch64.result) ≡ c.next_frame-in-LimitedCacheAarch64.result = to_z-of_z w32 c.next_frame-in-LimitedCacheAarch64.result fits in
    λ right other. c.next_frame-in-LimitedCacheAarch64.ensures.nothing (rw same at other)
