use Rattle.std.proofs.Common.{◌≡◌, ◌∙◌, ap, sym, Some}
use Rattle.std.specs.Option.{option_copied}
use Rattle.framehop_explain.specs.Uncovered.{uncovered_by}
use Rattle.framehop_explain.specs.declared.uncovered.Uncovered.TheVariants.{PastEnd, FarAboveBase}
use Rattle.framehop_explain.proofs.text.last_text.Goals as goal

pub returns-in-PastEnd : goal.returns-in-PastEnd
returns-in-PastEnd g c =
    let reason : uncovered_by (Some c.in-Some.loaded.now) c.args.address ≡ PastEnd =
    ap (λ last. uncovered_by (option_copied last) c.args.address) (sym c.in-Some.is) ∙ sym c.by.ensures ∙ c.in-PastEnd.is in
    let text = rw (c.in_radix-in-PastEnd.ensures, c.in_radix-in-PastEnd-2.ensures, c.avma_range-end.ensures.end, c.module_name-name.ensures) at c.format-in-PastEnd.ensures.ok in
    rw c.in-Some.is (rw reason text)

pub returns-in-FarAboveBase : goal.returns-in-FarAboveBase
returns-in-FarAboveBase g c =
    let reason : uncovered_by (Some c.in-Some.loaded.now) c.args.address ≡ FarAboveBase =
    ap (λ last. uncovered_by (option_copied last) c.args.address) (sym c.in-Some.is) ∙ sym c.by.ensures ∙ c.in-FarAboveBase.is in
    let text = rw (c.in_radix-in-FarAboveBase.ensures, c.in_radix-in-FarAboveBase-2.ensures, c.base_avma-base.ensures, c.module_name-name.ensures) at c.format-in-FarAboveBase.ensures.ok in
    rw c.in-Some.is (rw reason text)
