-- What the walk promises under each policy. Under the limited one memory does not run out.
use Rattle.std.proofs.Common.{rules, ◌≡◌, to_z, of_z}
use mir.Val.{SFits}
use mir.Syntax.{w32}
use Rattle.std.proofs.lemmas.Int.{to_z-of_z}
use Rattle.framehop_c.proofs.Limited.{aarch64-never-runs-out}
use Rattle.framehop_c.proofs.aarch64.walk_on_by.Goals as goal

pub returns-in-LimitedCacheAarch64-clause-may_run_out : goal.returns-in-LimitedCacheAarch64-clause-may_run_out
returns-in-LimitedCacheAarch64-clause-may_run_out c =
    let walked = c.walk_on_from-in-LimitedCacheAarch64 in
    let fits : SFits w32 walked.result = search rules in
    let same : to_z w32 (of_z w32 walked.result) ≡ walked.result = to_z-of_z w32 walked.result fits in
    rw (c.in-LimitedUnwinderAarch64.is) (λ out. let may = walked.ensures.may_run_out (rw same at out) in aarch64-never-runs-out _ _ _ may.2)

pub returns-in-CacheAarch64-clause-answers : goal.returns-in-CacheAarch64-clause-answers
returns-in-CacheAarch64-clause-answers c =
    let walked = c.walk_on_from in
    let fits : SFits w32 walked.result = search rules in
    let same : to_z w32 (of_z w32 walked.result) ≡ walked.result = to_z-of_z w32 walked.result fits in
    rw (c.in-UnwinderAarch64.is, c.in-CacheAarch64.is) (λ address sound memory agrees. rw same (walked.ensures.answers address sound memory agrees))

pub returns-in-LimitedCacheAarch64-clause-answers : goal.returns-in-LimitedCacheAarch64-clause-answers
returns-in-LimitedCacheAarch64-clause-answers c =
    let walked = c.walk_on_from-in-LimitedCacheAarch64 in
    let fits : SFits w32 walked.result = search rules in
    let same : to_z w32 (of_z w32 walked.result) ≡ walked.result = to_z-of_z w32 walked.result fits in
    rw (c.in-LimitedUnwinderAarch64.is, c.in-LimitedCacheAarch64.is) (λ address sound memory agrees. rw same (walked.ensures.answers address sound memory agrees))
