use Rattle.std.proofs.Common.{◌≡◌, ◌<◌, ◌-◌, ◌∙◌, ap, inl, inr, ⊎_elim, length, arith}
use Rattle.std.proofs.lemmas.Result.{err_from_is_err_and}
use Rattle.framehop_dumps.specs.Minidump.{loaded_view, loaded_in, loaded_size, names_limit}
use Rattle.framehop_dumps.proofs.WithinLemmas.{within-more, within-refused, within-done}
use Rattle.framehop_dumps.proofs.minidump.loaded_modules.Goals as goal

pub returns-in_err-one : goal.returns-in_err-one
returns-in_err-one c =
    let l = c.loop-module in
    let file = c.args.file.now in
    let within : l.module-index < length c.args.modules.now = omega arith in
    let p = err_from_is_err_and c.from_residual.result c.from_residual.ensures.1 in
    rw (p.1, p.2) (⊎_elim (λ memory. inl memory)
    (λ refused. inr (within-refused loaded_view (loaded_in file) loaded_size (names_limit file) c.args.modules.now l.module-index l.left _ l.loaded.items c.in_err-one.field-0.0 within l.invariant refused))
    c.in_err-one.ensures)

pub loop-module-preserved : goal.loop-module-preserved
loop-module-preserved c =
    let l = c.loop-module in
    let file = c.args.file.now in
    let within : l.module-index < length c.args.modules.now = omega arith in
    rw c.in-Ok.ensures.items
    (within-more loaded_view (loaded_in file) loaded_size (names_limit file) c.args.modules.now l.module-index l.left _ _ l.loaded.items c.in_ok-one.one within l.invariant c.in_ok-one.ensures
    (c.saturating_sub-left.ensures ∙ ap (λ n. l.left - n) c.loaded_size.ensures))

pub returns : goal.returns
returns c =
    let l = c.loop-module in
    let file = c.args.file.now in
    let over : l.module-index ≡ length c.args.modules.now = omega arith in
    within-done loaded_view (loaded_in file) loaded_size (names_limit file) c.args.modules.now l.module-index l.left l.loaded.items over l.invariant
