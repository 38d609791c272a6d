-- What the walk promises under each policy. Under the limited one memory does not run out.
use Rattle.std.proofs.Common.{rules, ◌≡◌, to_z, of_z}
use mir.Val.{SFits}
use mir.Syntax.{w32}
use Rattle.std.proofs.lemmas.Int.{to_z-of_z}
use Rattle.framehop_c.proofs.Limited.{x86_64-never-runs-out}
use Rattle.framehop_c.proofs.x86_64.walk_on_by.Goals as goal

pub returns-in-LimitedCacheX86_64-clause-may_run_out : goal.returns-in-LimitedCacheX86_64-clause-may_run_out
returns-in-LimitedCacheX86_64-clause-may_run_out c =
    let walked = c.walk_on_from-in-LimitedCacheX86_64 in
    let fits : SFits w32 walked.result = search rules in
    let same : to_z w32 (of_z w32 walked.result) ≡ walked.result = to_z-of_z w32 walked.result fits in
    rw (c.in-LimitedUnwinderX86_64.is) (λ out. let may = walked.ensures.may_run_out (rw same at out) in x86_64-never-runs-out _ _ _ may.2)

pub returns-in-CacheX86_64-clause-answers : goal.returns-in-CacheX86_64-clause-answers
returns-in-CacheX86_64-clause-answers c =
    let walked = c.walk_on_from in
    let fits : SFits w32 walked.result = search rules in
    let same : to_z w32 (of_z w32 walked.result) ≡ walked.result = to_z-of_z w32 walked.result fits in
    rw (c.in-UnwinderX86_64.is, c.in-CacheX86_64.is) (λ address sound memory agrees. rw same (walked.ensures.answers address sound memory agrees))

pub returns-in-LimitedCacheX86_64-clause-answers : goal.returns-in-LimitedCacheX86_64-clause-answers
returns-in-LimitedCacheX86_64-clause-answers c =
    let walked = c.walk_on_from-in-LimitedCacheX86_64 in
    let fits : SFits w32 walked.result = search rules in
    let same : to_z w32 (of_z w32 walked.result) ≡ walked.result = to_z-of_z w32 walked.result fits in
    rw (c.in-LimitedUnwinderX86_64.is, c.in-LimitedCacheX86_64.is) (λ address sound memory agrees. rw same (walked.ensures.answers address sound memory agrees))
