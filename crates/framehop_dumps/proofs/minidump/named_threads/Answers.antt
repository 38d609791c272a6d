use Rattle.std.proofs.Common.{◌≡◌, ◌<◌, ◌-◌, ◌∙◌, ap, inl, inr, ⊎_elim, length, arith}
use Rattle.std.proofs.lemmas.Result.{err_from_is_err_and}
use Rattle.framehop_dumps.specs.Minidump.{named_in, names_limit}
use Rattle.framehop_dumps.specs.ThreadNames.{named_view}
use Rattle.framehop_dumps.proofs.WithinLemmas.{within-more, within-refused, within-done}
use Rattle.framehop_dumps.proofs.minidump.named_threads.Goals as goal

pub returns-in_err-named : goal.returns-in_err-named
returns-in_err-named c =
    let l = c.loop-one in
    let file = c.args.file.now in
    let within : l.one-index < length c.args.placed.now = omega arith in
    let p = err_from_is_err_and c.from_residual.result c.from_residual.ensures.1 in
    rw (p.1, p.2) (⊎_elim (λ memory. inl memory)
    (λ refused. inr (within-refused named_view (named_in file) (λ named. length named.name) (names_limit file) c.args.placed.now l.one-index l.left _ l.names.items c.in_err-named.field-0.0 within l.invariant refused))
    c.in_err-named.ensures)

pub loop-one-preserved : goal.loop-one-preserved
loop-one-preserved c =
    let l = c.loop-one in
    let file = c.args.file.now in
    let within : l.one-index < length c.args.placed.now = omega arith in
    rw c.in-Ok.ensures.items
    (within-more named_view (named_in file) (λ named. length named.name) (names_limit file) c.args.placed.now l.one-index l.left _ _ l.names.items c.in_ok-named.named within l.invariant c.in_ok-named.ensures
    (c.saturating_sub-left.ensures ∙ ap (λ n. l.left - n) c.named_size.ensures))

pub returns : goal.returns
returns c =
    let l = c.loop-one in
    let file = c.args.file.now in
    let over : l.one-index ≡ length c.args.placed.now = omega arith in
    within-done named_view (named_in file) (λ named. length named.name) (names_limit file) c.args.placed.now l.one-index l.left l.names.items over l.invariant
