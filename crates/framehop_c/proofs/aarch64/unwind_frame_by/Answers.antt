-- An unwinder and a cache of one policy: what the step promises.
use Rattle.std.proofs.Common.{rules, ◌≡◌, to_z, of_z}
use mir.Val.{SFits}
use mir.Syntax.{w32}
use Rattle.std.proofs.lemmas.Int.{to_z-of_z}
use Rattle.framehop_c.proofs.aarch64.unwind_frame_by.Goals as goal

pub returns-in-CacheAarch64-clause-stays_sound : goal.returns-in-CacheAarch64-clause-stays_sound
returns-in-CacheAarch64-clause-stays_sound c = rw (c.in-UnwinderAarch64.is, c.in-CacheAarch64.is) c.unwind_frame.ensures.stays_sound

pub returns-in-CacheAarch64-clause-answers : goal.returns-in-CacheAarch64-clause-answers
returns-in-CacheAarch64-clause-answers c =
    let fits : SFits w32 c.unwind_frame.result = search rules in
    let same : to_z w32 (of_z w32 c.unwind_frame.result) ≡ c.unwind_frame.result = to_z-of_z w32 c.unwind_frame.result fits in
    rw (c.in-UnwinderAarch64.is, c.in-CacheAarch64.is) (λ address sound memory. rw same (c.unwind_frame.ensures.answers address sound (rw same at memory)))

pub returns-in-LimitedCacheAarch64-clause-stays_sound : goal.returns-in-LimitedCacheAarch64-clause-stays_sound
returns-in-LimitedCacheAarch64-clause-stays_sound c =
    rw (c.in-LimitedUnwinderAarch64.is, c.in-LimitedCacheAarch64.is) c.unwind_frame-in-LimitedCacheAarch64.ensures.stays_sound

pub returns-in-LimitedCacheAarch64-clause-answers : goal.returns-in-LimitedCacheAarch64-clause-answers
returns-in-LimitedCacheAarch64-clause-answers c =
    let unwound = c.unwind_frame-in-LimitedCacheAarch64 in
    let fits : SFits w32 unwound.result = search rules in
    let same : to_z w32 (of_z w32 unwound.result) ≡ unwound.result = to_z-of_z w32 unwound.result fits in
    rw (c.in-LimitedUnwinderAarch64.is, c.in-LimitedCacheAarch64.is) (λ address sound memory. rw same (unwound.ensures.answers address sound (rw same at memory)))
