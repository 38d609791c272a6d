use Rattle.std.proofs.Common.{◌≡◌, Err, map, string_bytes, ap, ◌∙◌}
use Rattle.std.proofs.lemmas.Result.{err_from_is_err_and}
use Rattle.framehop.specs.CachedWorld.{cached_replies, empty_cached_world}
use Rattle.framehop.specs.SessionView.{reply_view}
use Rattle.framehop_walk.specs.Refusals.{of_session, reading_of}
use Rattle.framehop_walk.proofs.Tellings.{printed-told, printed-refused, same-refusal}
use Rattle.framehop_walk.proofs.program.run_commands.Goals as goal

pub returns-in_err-replies : goal.returns-in_err-replies
returns-in_err-replies g c = λ other.
    let p = err_from_is_err_and c.from_residual-in_err-replies.result c.from_residual-in_err-replies.ensures.1 in
    let same : c.from_residual-in_err-replies.result ≡ Err (of_session c.in_err-replies.field-0.0) = p.1 ∙ ap (λ r. Err r) p.2 in
    ap (reading_of (λ text. string_bytes text)) same
    ∙ printed-refused g.A.Registers.text (map (λ v. v.now) c.args.verbs.now.items) c.in_ok-shared.shared.told.items c.in_err-replies.field-0.0 _ _
    (c.in_err-replies.ensures.counted (λ out. other (same ∙ ap (λ r. Err r) (same-refusal c.in_err-replies.field-0.0 _ out)))
    ∙ ap (λ n. cached_replies (g.A.Unwinding.unwinding g.P.AllocationPolicy.policy) (empty_cached_world c.args.cache_count n) c.in_ok-shared.shared.commands.items) c.new-generations.ensures)
    (c.in_ok-shared.ensures c.args.cache_count 0)

pub returns : goal.returns
returns g c = λ other.
    printed-told g.A.Registers.text (map (λ v. v.now) c.args.verbs.now.items) c.in_ok-shared.shared.told.items
    (string_bytes c.in_ok-print_replies.field-0) (map reply_view c.in_ok-told.told.items) (map reply_view c.in_ok-replies.replies.items) _ _
    c.in_ok-print_replies.ensures c.in_ok-told.ensures
    (c.in_ok-replies.ensures.counted (λ e. cc)
    ∙ ap (λ n. cached_replies (g.A.Unwinding.unwinding g.P.AllocationPolicy.policy) (empty_cached_world c.args.cache_count n) c.in_ok-shared.shared.commands.items) c.new-generations.ensures)
    (c.in_ok-shared.ensures c.args.cache_count 0)
