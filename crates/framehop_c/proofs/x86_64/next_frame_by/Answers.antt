-- An unwinder and a cache of one policy: what the call promises.
use Rattle.std.proofs.Common.{rules, ◌≡◌, ap, to_z, of_z}
use mir.Val.{SFits}
use mir.Syntax.{w32}
use Rattle.std.proofs.lemmas.Int.{to_z-of_z}
use Rattle.framehop.specs.Policy.{with_allocation, without_allocation}
use Rattle.framehop.specs.X86_64.{x86_64}
use Rattle.framehop_c.proofs.Needed.{looked-up-after, x86_64-needed, x86_64-enough}
use Rattle.framehop_c.proofs.x86_64.next_frame_by.Goals as goal

pub returns-in-CacheX86_64-clause-wrong : goal.returns-in-CacheX86_64-clause-wrong
returns-in-CacheX86_64-clause-wrong c =
    let fits : SFits w32 c.next_frame.result = search rules in
    let same : to_z w32 (of_z w32 c.next_frame.result) ≡ c.next_frame.result = to_z-of_z w32 c.next_frame.result fits in
    rw (c.in-UnwinderX86_64.is, c.in-CacheX86_64.is) (λ wrong. c.next_frame.ensures.other (rw same at wrong))

pub returns-in-CacheX86_64-clause-null : goal.returns-in-CacheX86_64-clause-null
returns-in-CacheX86_64-clause-null c =
    let fits : SFits w32 c.next_frame.result = search rules in
    let same : to_z w32 (of_z w32 c.next_frame.result) ≡ c.next_frame.result = to_z-of_z w32 c.next_frame.result fits in
    rw (c.in-UnwinderX86_64.is, c.in-CacheX86_64.is) (λ null. let all = c.next_frame.ensures.null null in (rw same all.0, ap (λ cache. cache.0) all.2))

pub returns-in-CacheX86_64-clause-may_run_out : goal.returns-in-CacheX86_64-clause-may_run_out
returns-in-CacheX86_64-clause-may_run_out c =
    let fits : SFits w32 c.next_frame.result = search rules in
    let same : to_z w32 (of_z w32 c.next_frame.result) ≡ c.next_frame.result = to_z-of_z w32 c.next_frame.result fits in
    rw (c.in-UnwinderX86_64.is, c.in-CacheX86_64.is) (λ out. c.next_frame.ensures.may_run_out (rw same at out))

pub returns-in-CacheX86_64-clause-looked_up : goal.returns-in-CacheX86_64-clause-looked_up
returns-in-CacheX86_64-clause-looked_up c =
    rw (c.in-UnwinderX86_64.is, c.in-CacheX86_64.is) (λ callee. looked-up-after (x86_64 with_allocation) _ _ _ _ (c.next_frame.ensures.looked_up callee))

pub returns-in-CacheX86_64-clause-stays_sound : goal.returns-in-CacheX86_64-clause-stays_sound
returns-in-CacheX86_64-clause-stays_sound c = rw (c.in-UnwinderX86_64.is, c.in-CacheX86_64.is) c.next_frame.ensures.stays_sound

pub returns-in-CacheX86_64-clause-answers : goal.returns-in-CacheX86_64-clause-answers
returns-in-CacheX86_64-clause-answers c =
    let fits : SFits w32 c.next_frame.result = search rules in
    let same : to_z w32 (of_z w32 c.next_frame.result) ≡ c.next_frame.result = to_z-of_z w32 c.next_frame.result fits in
    λ fine other.
    rw (c.in-UnwinderX86_64.is, c.in-CacheX86_64.is) (λ callee sound memory agrees. rw same (c.next_frame.ensures.answers callee sound (rw same at fine) (rw same at other) memory agrees))

pub returns-in-CacheX86_64-clause-ahead : goal.returns-in-CacheX86_64-clause-ahead
returns-in-CacheX86_64-clause-ahead c =
    let fits : SFits w32 c.next_frame.result = search rules in
    let same : to_z w32 (of_z w32 c.next_frame.result) ≡ c.next_frame.result = to_z-of_z w32 c.next_frame.result fits in
    λ is_ok.
    rw (c.in-UnwinderX86_64.is, c.in-CacheX86_64.is) (λ sound.
    let asked = c.next_frame.ensures.asked sound (rw same at is_ok) in
    let looked = c.next_frame.ensures.looked_up_ahead (rw same at is_ok) in
    (asked.1, x86_64-needed with_allocation _ _ _ _ _ asked.0 asked.1 looked, x86_64-enough with_allocation _ _ _ _ _ asked.0 asked.1 looked asked.2))

pub returns-in-LimitedCacheX86_64-clause-wrong : goal.returns-in-LimitedCacheX86_64-clause-wrong
returns-in-LimitedCacheX86_64-clause-wrong c =
    let fits : SFits w32 c.next_frame-in-LimitedCacheX86_64.result = search rules in
    let same : to_z w32 (of_z w32 c.next_frame-in-LimitedCacheX86_64.result) ≡ c.next_frame-in-LimitedCacheX86_64.result = to_z-of_z w32 c.next_frame-in-LimitedCacheX86_64.result fits in
    rw (c.in-LimitedUnwinderX86_64.is, c.in-LimitedCacheX86_64.is) (λ wrong. c.next_frame-in-LimitedCacheX86_64.ensures.other (rw same at wrong))

pub returns-in-LimitedCacheX86_64-clause-null : goal.returns-in-LimitedCacheX86_64-clause-null
returns-in-LimitedCacheX86_64-clause-null c =
    let fits : SFits w32 c.next_frame-in-LimitedCacheX86_64.result = search rules in
    let same : to_z w32 (of_z w32 c.next_frame-in-LimitedCacheX86_64.result) ≡ c.next_frame-in-LimitedCacheX86_64.result = to_z-of_z w32 c.next_frame-in-LimitedCacheX86_64.result fits in
    rw (c.in-LimitedUnwinderX86_64.is, c.in-LimitedCacheX86_64.is) (λ null. let all = c.next_frame-in-LimitedCacheX86_64.ensures.null null in (rw same all.0, ap (λ cache. cache.0) all.2))

pub returns-in-LimitedCacheX86_64-clause-may_run_out : goal.returns-in-LimitedCacheX86_64-clause-may_run_out
returns-in-LimitedCacheX86_64-clause-may_run_out c =
    let fits : SFits w32 c.next_frame-in-LimitedCacheX86_64.result = search rules in
    let same : to_z w32 (of_z w32 c.next_frame-in-LimitedCacheX86_64.result) ≡ c.next_frame-in-LimitedCacheX86_64.result = to_z-of_z w32 c.next_frame-in-LimitedCacheX86_64.result fits in
    rw (c.in-LimitedUnwinderX86_64.is, c.in-LimitedCacheX86_64.is) (λ out. c.next_frame-in-LimitedCacheX86_64.ensures.may_run_out (rw same at out))

pub returns-in-LimitedCacheX86_64-clause-looked_up : goal.returns-in-LimitedCacheX86_64-clause-looked_up
returns-in-LimitedCacheX86_64-clause-looked_up c =
    rw (c.in-LimitedUnwinderX86_64.is, c.in-LimitedCacheX86_64.is) (λ callee. looked-up-after (x86_64 without_allocation) _ _ _ _ (c.next_frame-in-LimitedCacheX86_64.ensures.looked_up callee))

pub returns-in-LimitedCacheX86_64-clause-stays_sound : goal.returns-in-LimitedCacheX86_64-clause-stays_sound
returns-in-LimitedCacheX86_64-clause-stays_sound c = rw (c.in-LimitedUnwinderX86_64.is, c.in-LimitedCacheX86_64.is) c.next_frame-in-LimitedCacheX86_64.ensures.stays_sound

pub returns-in-LimitedCacheX86_64-clause-answers : goal.returns-in-LimitedCacheX86_64-clause-answers
returns-in-LimitedCacheX86_64-clause-answers c =
    let fits : SFits w32 c.next_frame-in-LimitedCacheX86_64.result = search rules in
    let same : to_z w32 (of_z w32 c.next_frame-in-LimitedCacheX86_64.result) ≡ c.next_frame-in-LimitedCacheX86_64.result = to_z-of_z w32 c.next_frame-in-LimitedCacheX86_64.result fits in
    λ fine other.
    rw (c.in-LimitedUnwinderX86_64.is, c.in-LimitedCacheX86_64.is) (λ callee sound memory agrees. rw same (c.next_frame-in-LimitedCacheX86_64.ensures.answers callee sound (rw same at fine) (rw same at other) memory agrees))

pub returns-in-LimitedCacheX86_64-clause-ahead : goal.returns-in-LimitedCacheX86_64-clause-ahead
returns-in-LimitedCacheX86_64-clause-ahead c =
    let fits : SFits w32 c.next_frame-in-LimitedCacheX86_64.result = search rules in
    let same : to_z w32 (of_z w32 c.next_frame-in-LimitedCacheX86_64.result) ≡ c.next_frame-in-LimitedCacheX86_64.result = to_z-of_z w32 c.next_frame-in-LimitedCacheX86_64.result fits in
    λ is_ok.
    rw (c.in-LimitedUnwinderX86_64.is, c.in-LimitedCacheX86_64.is) (λ sound.
    let asked = c.next_frame-in-LimitedCacheX86_64.ensures.asked sound (rw same at is_ok) in
    let looked = c.next_frame-in-LimitedCacheX86_64.ensures.looked_up_ahead (rw same at is_ok) in
    (asked.1, x86_64-needed without_allocation _ _ _ _ _ asked.0 asked.1 looked, x86_64-enough without_allocation _ _ _ _ _ asked.0 asked.1 looked asked.2))

pub returns-in-CacheX86_64-clause-null_kept : goal.returns-in-CacheX86_64-clause-null_kept
returns-in-CacheX86_64-clause-null_kept c = λ null. (c.next_frame.ensures.null null).1

pub returns-in-LimitedCacheX86_64-clause-null_kept : goal.returns-in-LimitedCacheX86_64-clause-null_kept
returns-in-LimitedCacheX86_64-clause-null_kept c = λ null. (c.next_frame-in-LimitedCacheX86_64.ensures.null null).1

pub returns-in-CacheX86_64-clause-looked_up_ahead : goal.returns-in-CacheX86_64-clause-looked_up_ahead
returns-in-CacheX86_64-clause-looked_up_ahead c =
    let fits : SFits w32 c.next_frame.result = search rules in
    let same : to_z w32 (of_z w32 c.next_frame.result) ≡ c.next_frame.result = to_z-of_z w32 c.next_frame.result fits in
    λ is_ok.
    rw (c.in-UnwinderX86_64.is, c.in-CacheX86_64.is) (looked-up-after (x86_64 with_allocation) _ _ _ _ (c.next_frame.ensures.looked_up_ahead (rw same at is_ok)))

pub returns-in-LimitedCacheX86_64-clause-looked_up_ahead : goal.returns-in-LimitedCacheX86_64-clause-looked_up_ahead
returns-in-LimitedCacheX86_64-clause-looked_up_ahead c =
    let fits : SFits w32 c.next_frame-in-LimitedCacheX86_64.result = search rules in
    let same : to_z w32 (of_z w32 c.next_frame-in-LimitedCacheX86_64.result) ≡ c.next_frame-in-LimitedCacheX86_64.result = to_z-of_z w32 c.next_frame-in-LimitedCacheX86_64.result fits in
    λ is_ok.
    rw (c.in-LimitedUnwinderX86_64.is, c.in-LimitedCacheX86_64.is) (looked-up-after (x86_64 without_allocation) _ _ _ _ (c.next_frame-in-LimitedCacheX86_64.ensures.looked_up_ahead (rw same at is_ok)))

pub returns-in-CacheX86_64-clause-nothing : goal.returns-in-CacheX86_64-clause-nothing
returns-in-CacheX86_64-clause-nothing c =
    let fits : SFits w32 c.next_frame.result = search rules in
    let same : to_z w32 (of_z w32 c.next_frame.result) ≡ c.next_frame.result = to_z-of_z w32 c.next_frame.result fits in
    λ right other. c.next_frame.ensures.nothing (rw same at other)

pub returns-in-LimitedCacheX86_64-clause-nothing : goal.returns-in-LimitedCacheX86_64-clause-nothing
returns-in-LimitedCacheX86_64-clause-nothing c =
    let fits : SFits w32 c.next_frame-in-LimitedCacheX86_64.result = search rules in
    let same : to_z w32 (of_z w32 c.next_frame-in-LimitedCacheX86_64.result) ≡ c.next_frame-in-LimitedCacheX86_64.result = to_z-of_z w32 c.next_frame-in-LimitedCacheX86_64.result fits in
    λ right other. c.next_frame-in-LimitedCacheX86_64.ensures.nothing (rw same at other)
