use Rattle.std.proofs.Common.{◌≡◌, ◌<◌, Some, if◌then◌else◌, length, map, ap, ◌∙◌, subst, arith}
use Rattle.std.specs.Prelude.{◌==◌}
use Rattle.std.proofs.lemmas.List.{take_all}
use Rattle.framehop_dumps.specs.ThreadNames.{named_view, name_among, name_kept}
use Rattle.framehop_dumps.specs.declared.thread_names.NamedThread.{NamedThread}
use Rattle.framehop_dumps.proofs.ThreadNameLemmas.{name-next}
use Rattle.framehop_dumps.proofs.thread_names.names_by_tid.Goals as goal

pub loop-named-preserved : goal.loop-named-preserved
loop-named-preserved c = λ tid.
    let l = c.loop-named in
    let within : l.named-index < length c.args.listed.now = omega arith in
    let put = subst (λ (named : NamedThread). name_kept c.put.new.by_tid tid
    ≡ (if named.tid == tid then Some named.name.items else name_kept l.by_tid tid)) c.named-item.is (c.in_ok-put.ensures tid) in
    name-next c.args.listed.now l.named-index c.named-item.result tid within _ _ put (l.invariant tid)

pub returns : goal.returns
returns c = λ tid.
    let l = c.loop-named in
    l.invariant tid ∙ ap (λ some. name_among (map named_view some) tid) (take_all l.named-index c.args.listed.now (omega arith))
