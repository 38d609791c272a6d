use Rattle.std.proofs.Common.{◌++◌, ◌∙◌, ap, map, subst, sym}
use Rattle.std.proofs.lemmas.List.{append-nil}
use Rattle.serde_json.specs.View.{view}
use Rattle.framehop_folded.specs.Speedscope.{AreThreadProfiles, stack_view}
use Rattle.framehop_folded.proofs.SpeedscopeLemmas.{are_thread_profiles, profile_of}
use Rattle.framehop_folded.proofs.speedscope.thread_profiles.Goals as goal

pub returns : goal.returns
returns c = λ names are.
    let entries = c.into_iter-thread-iterator.ensures.into_iter_gives ∙ c.iter-thread-items.ensures.rest in
    subst (AreThreadProfiles names (map stack_view c.args.stacks.now))
    (sym (sym (append-nil (map view c.loop-thread.profiles.items))
    ∙ ap (λ rest. map view c.loop-thread.profiles.items ++ map (profile_of names) rest) (sym c.in-None.ensures.steps.0)
    ∙ c.loop-thread.invariant names are ∙ ap (map (profile_of names)) entries))
    (are_thread_profiles names (map stack_view c.args.stacks.now) c.in_ok-by_thread.by_thread c.in_ok-by_thread.ensures
    c.iter-thread-items.ensures.ordered c.iter-thread-items.ensures.found)
