use Rattle.std.proofs.Common.{◌<◌, inl, inr, Some, ◌∙◌, arith}
use Rattle.framehop_processes.proofs.CodeMapLemmas.{put-in-force, key-below, key-over}
use Rattle.framehop_processes.proofs.code_map.put.Goals as goal

pub returns : goal.returns
returns c =
    let start = c.args.start in
    let end = c.args.end in
    let some : start < end = omega (arith, c.if-end-start.false) in
    let old = c.args.by_address.now in
    let new = c.insert-2.new.self in
    let first = c.in_ok-insert.ensures.updates in
    let second = c.in_ok-insert-2.ensures.updates in
    let cleared = c.clear.ensures.cleared in
    let kept = c.clear.ensures.kept in
    λ address before is. put-in-force old new start end (Some c.args.number) c.number_at-after.result some c.number_at-after.ensures
    (second.2 start (key-below end start some) ∙ first.1)
    second.1
    (λ key above below. second.2 key (key-below end key below) ∙ first.2 key (key-over start key above) ∙ cleared key (omega (arith, above)) below)
    (λ key below. second.2 key (key-below end key (omega (arith, below, some))) ∙ first.2 key (key-below start key below) ∙ kept key (inl below))
    (λ key above. second.2 key (key-over end key above) ∙ first.2 key (key-over start key (omega (arith, above, some))) ∙ kept key (inr (omega (arith, above))))
    address before is
