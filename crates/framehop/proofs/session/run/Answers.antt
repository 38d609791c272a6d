use Rattle.std.proofs.Common.{◌≡◌, ◌≢◌, [], ◌∷◌, ◌++◌, map, length, Err, refl, sym, ap, ◌∙◌, subst, arith, rules}
use Rattle.std.proofs.lemmas.List.{map-append, nil_from_length}
use Rattle.std.proofs.lemmas.Result.{err_from_is_err_and}
use Rattle.std.specs.Vec.Iter.{into_iter_items}
use Rattle.framehop.specs.CachedWorld.{CachedWorld, empty_cached_world, cached_replies, next_after_all, world_result}
use Rattle.framehop.specs.declared.session.commands.SessionError.TheVariants.{OutOfMemory}
use Rattle.framehop.specs.SessionView.{state_of, reply_view, result_view}
use Rattle.framehop.specs.Transparent.{IsTransparent}
use Rattle.framehop.proofs.CachedWorldLemmas.{transparent-start, transparent-after, CachedWorld-equal}
use Rattle.framehop.proofs.RunLemmas.{Continues, Continues-start, Continues-served, refused-all, done-all}
use Rattle.framehop.proofs.WorldLemmas.{world-replies-start}
use Rattle.framehop.proofs.MeaningLemmas.{reply-meant, both}
use Rattle.framehop.proofs.RiseLemmas.{raises-as, reply-rise, each-reply}
use Rattle.framehop.proofs.session.run.Goals as goal

pub loop-command-init : goal.loop-command-init
loop-command-init g c =
    let start : CachedWorld g.row.A-UnwindRule.Denot = empty_cached_world c.args.cache_count c.args.generations.now in
    let made = c.in_ok-session.ensures.made in
    let state : CachedWorld g.row.A-UnwindRule.Denot = state_of c.in_ok-session.session c.args.generations.now in
    let same : state ≡ start = CachedWorld-equal state start made.0 refl made.1 in
    let given : into_iter_items c.into_iter-command-iterator.result ≡ c.args.commands.items = search rules in (
      subst (IsTransparent _) (sym same) (transparent-start (g.A.Unwinding.unwinding g.P.AllocationPolicy.policy) c.args.cache_count c.args.generations.now),
      rw (c.new-replies.ensures.items, same, given) (Continues-start (g.A.Unwinding.unwinding g.P.AllocationPolicy.policy) start c.args.commands.items),
      omega arith,
      search rules,
      omega (arith, ap length given),
    )

-- the command that was refused refuses all
refused-at : (g : _) (c : goal.After-drop-session-in_err-reply g) → c.from_residual-in_err-reply.result ≢ Err OutOfMemory → (result_view c.from_residual-in_err-reply.result ≡ cached_replies (g.A.Unwinding.unwinding g.P.AllocationPolicy.policy) (empty_cached_world c.args.cache_count c.args.generations.now) c.args.commands.items) × (c.serve.new.generations ≡ next_after_all (g.A.Unwinding.unwinding g.P.AllocationPolicy.policy) (empty_cached_world c.args.cache_count c.args.generations.now) c.args.commands.items)
refused-at g c other =
    let old = c.loop-command.invariant in
    let state : CachedWorld g.row.A-UnwindRule.Denot = state_of c.loop-command.session c.loop-command.generations in
    let taken : into_iter_items c.loop-command.command-iterator ≡ c.in-Some.command ∷ into_iter_items c.next.new.self = search rules in
    let here = subst (λ commands. Continues (g.A.Unwinding.unwinding g.P.AllocationPolicy.policy) state (empty_cached_world c.args.cache_count c.args.generations.now) (map reply_view c.loop-command.replies.items) commands c.args.commands.items) taken old.1 in
    let p = err_from_is_err_and c.from_residual-in_err-reply.result c.from_residual-in_err-reply.ensures.1 in
    let is : c.from_residual-in_err-reply.result ≡ Err c.in_err-reply.field-0.0 = p.1 ∙ ap (λ error. Err error) p.2 in
    let served = (c.in_err-reply.ensures.served old.0).0 (λ e. other (is ∙ ap (λ error. Err error) e)) in
    let all = refused-all (g.A.Unwinding.unwinding g.P.AllocationPolicy.policy) state (empty_cached_world c.args.cache_count c.args.generations.now) (map reply_view c.loop-command.replies.items) c.in-Some.command (into_iter_items c.next.new.self) c.args.commands.items here c.in_err-reply.field-0.0 served.0 in
    (ap result_view is ∙ all.0, served.1 ∙ all.1)

pub returns-in_err-reply-clause-counted : goal.returns-in_err-reply-clause-counted
returns-in_err-reply-clause-counted g c = λ other. (refused-at g c other).0

pub returns-in_err-reply-clause-transparent : goal.returns-in_err-reply-clause-transparent
returns-in_err-reply-clause-transparent g c = λ other.
    ap world_result (refused-at g c other).0 ∙ world-replies-start (g.A.Unwinding.unwinding g.P.AllocationPolicy.policy) c.args.cache_count c.args.generations.now c.args.commands.items

pub returns-in_err-reply-clause-drawn : goal.returns-in_err-reply-clause-drawn
returns-in_err-reply-clause-drawn g c = λ other. (refused-at g c other).1

pub loop-command-preserved : goal.loop-command-preserved
loop-command-preserved g c =
    let old = c.loop-command.invariant in
    let state : CachedWorld g.row.A-UnwindRule.Denot = state_of c.loop-command.session c.loop-command.generations in
    let taken : into_iter_items c.loop-command.command-iterator ≡ c.in-Some.command ∷ into_iter_items c.next.new.self = search rules in
    let served = c.in_ok-reply.ensures.served old.0 in
    let pushed : c.push.new.self.items ≡ c.loop-command.replies.items ++ c.in_ok-reply.reply ∷ [] = search rules in
    let here = subst (λ commands. Continues (g.A.Unwinding.unwinding g.P.AllocationPolicy.policy) state (empty_cached_world c.args.cache_count c.args.generations.now) (map reply_view c.loop-command.replies.items) commands c.args.commands.items) taken old.1 in (
      subst (IsTransparent _) (sym served.2) (transparent-after (g.A.Unwinding.unwinding g.P.AllocationPolicy.policy) state c.in-Some.command served.0 old.0),
      rw (pushed, map-append) (Continues-served (g.A.Unwinding.unwinding g.P.AllocationPolicy.policy) state _ _ c.in-Some.command _ _ here _ (reply_view c.in_ok-reply.reply) served.0 served.1 served.2),
      omega arith,
      search rules,
      omega (arith, ap length taken, c.in_ok-reply.ensures.drawn_at_most, old.4),
    )

pub returns-clause-counted : goal.returns-clause-counted
returns-clause-counted g c = λ other.
    let none : into_iter_items c.loop-command.command-iterator ≡ [] = nil_from_length _ (sym c.loop-command.invariant.3 ∙ c.in-None.ensures.steps.0) in
    (done-all (g.A.Unwinding.unwinding g.P.AllocationPolicy.policy) _ _ _ _ _ none c.loop-command.invariant.1).0

pub returns-clause-transparent : goal.returns-clause-transparent
returns-clause-transparent g c = λ other.
    ap world_result (returns-clause-counted g c other) ∙ world-replies-start (g.A.Unwinding.unwinding g.P.AllocationPolicy.policy) c.args.cache_count c.args.generations.now c.args.commands.items

pub returns-clause-drawn : goal.returns-clause-drawn
returns-clause-drawn g c = λ other.
    let none : into_iter_items c.loop-command.command-iterator ≡ [] = nil_from_length _ (sym c.loop-command.invariant.3 ∙ c.in-None.ensures.steps.0) in
    (done-all (g.A.Unwinding.unwinding g.P.AllocationPolicy.policy) _ _ _ _ _ none c.loop-command.invariant.1).1

pub returns-clause-bounded : goal.returns-clause-bounded
returns-clause-bounded g c =
    let policy = g.P.AllocationPolicy.policy in
    let unwinding = g.A.Unwinding.unwinding policy in
    let raises = raises-as _ _ _ _ _ (sym (g.met.A.Unwinding.outcome_is policy)) (sym (g.met.A.Unwinding.stack_pointer_is policy)) g.met.A.UnwindRule.UnwindRule.raises in
    each-reply unwinding _ (reply-rise unwinding g.A.UnwindRule.UnwindRule.is_after_step raises (g.A.Unwinding.rises_as_said policy))
    (empty_cached_world c.args.cache_count c.args.generations.now) c.args.commands.items (map reply_view c.loop-command.replies.items) (sym (returns-clause-counted g c (λ e. cc)))

pub returns-clause-means : goal.returns-clause-means
returns-clause-means g c =
    let policy = g.P.AllocationPolicy.policy in
    let unwinding = g.A.Unwinding.unwinding policy in
    each-reply unwinding _ (reply-meant unwinding _ (λ modules location old new memory address e. both e (g.met.A.Unwinding.step_means policy modules location old new memory address e)))
    (empty_cached_world c.args.cache_count c.args.generations.now) c.args.commands.items (map reply_view c.loop-command.replies.items) (sym (returns-clause-counted g c (λ e. cc)))

pub returns-in_err-reply-clause-drawn_at_most : goal.returns-in_err-reply-clause-drawn_at_most
returns-in_err-reply-clause-drawn_at_most g c =
    let taken : into_iter_items c.loop-command.command-iterator ≡ c.in-Some.command ∷ into_iter_items c.next.new.self = search rules in
    omega (arith, ap length taken, c.in_err-reply.ensures.drawn_at_most, c.loop-command.invariant.4)

pub returns-then-is_err-clause-drawn_at_most : goal.returns-then-is_err-clause-drawn_at_most
returns-then-is_err-clause-drawn_at_most g c =
    let taken : into_iter_items c.loop-command.command-iterator ≡ c.in-Some.command ∷ into_iter_items c.next.new.self = search rules in
    omega (arith, ap length taken, c.in_ok-reply.ensures.drawn_at_most, c.loop-command.invariant.4)

pub returns-clause-drawn_at_most : goal.returns-clause-drawn_at_most
returns-clause-drawn_at_most g c = omega (arith, c.loop-command.invariant.4)
