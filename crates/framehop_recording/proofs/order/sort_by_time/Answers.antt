use Rattle.std.proofs.Common.{rules}
use Rattle.std.proofs.lemmas.List.Sorted.{answers_always}
use Rattle.framehop_recording.proofs.order.sort_by_time.Goals as goal

pub returns-clause-ordered : goal.returns-clause-ordered
returns-clause-ordered c = (
  c.in_ok-sort_by_key.ensures.permutation,
  c.in_ok-sort_by_key.ensures.sorted (λ r. r.time) (answers_always _ _ _ (λ f a r g h. search rules)),
  c.in_ok-sort_by_key.ensures.stable (λ r. r.time) (answers_always _ _ _ (λ f a r g h. search rules)),
)
