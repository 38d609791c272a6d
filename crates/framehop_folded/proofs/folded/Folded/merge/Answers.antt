use Rattle.std.proofs.Common.{◌≡◌, ◌<◌, ◌≤◌, ◌+◌, ◌^◌, ◌⊎◌, ⊎_elim, inl, inr, true≢false, ap, sym, subst}
use Rattle.std.proofs.lemmas.Bool.{cases_lt}
use Rattle.std.proofs.lemmas.Map.Iter.{rest_more}
use Rattle.std.proofs.lemmas.Result.{err_from_is_err_and}
use Rattle.std.specs.Map.{lookup}
use Rattle.std.specs.Result.{is_err}
use Rattle.framehop_folded.specs.Folded.{entry_of, count_in, together}
use Rattle.framehop_folded.specs.declared.error.FoldedError.TheVariants.{CountTooLarge}
use Rattle.framehop_folded.specs.Laws.{is_line}
use Rattle.framehop_folded.proofs.MergeLemmas.{IsMergedSoFar, begun, too_large, step, all_counted, none_large, all_total}
use Rattle.framehop_folded.proofs.folded.Folded.merge.Goals as goal

pub loop-stack-init : goal.loop-stack-init
loop-stack-init c =
    let begins = c.into_iter-stack-iterator.ensures.into_iter_gives in
    subst (IsMergedSoFar c.args.self.now c.args.other c.args.self.now) (sym begins.0) (begun c.args.self.now c.args.other begins.5)

pub loop-stack-preserved : goal.loop-stack-preserved
loop-stack-preserved c =
    let k = c.in-Some.stack in
    let rest = rest_more (λ p. p) c.loop-stack.stack-iterator c.next.new.self c.next.result (k, c.in-Some.count) c.in-Some.is c.next.ensures.steps in
    let so = subst (IsMergedSoFar c.args.self.now c.args.other c.loop-stack.self) rest c.loop-stack.invariant in
    let small : count_in c.loop-stack.self k.items + c.in-Some.count < 2 ^ 64 =
    ⊎_elim (λ low. low) (λ high. absurd (true≢false (sym (ap is_err (c.in_ok-add.ensures.too_large high))))) (cases_lt (count_in c.loop-stack.self k.items + c.in-Some.count) (2 ^ 64)) in
    step c.args.self.now c.args.other c.loop-stack.self k c.in-Some.count c.next.new.self so
    c.add.new.self c.in_ok-add.ensures.counted c.in_ok-add.ensures.others c.in_ok-add.ensures.total small

pub returns-in_err-add-clause-refused : goal.returns-in_err-add-clause-refused
returns-in_err-add-clause-refused c =
    let p = err_from_is_err_and c.from_residual.result c.from_residual.ensures.1 in
    let k = c.in-Some.stack in
    let rest = rest_more (λ p. p) c.loop-stack.stack-iterator c.next.new.self c.next.result (k, c.in-Some.count) c.in-Some.is c.next.ensures.steps in
    let so = subst (IsMergedSoFar c.args.self.now c.args.other c.loop-stack.self) rest c.loop-stack.invariant in
    let kind : 2 ^ 64 ≤ count_in c.loop-stack.self k.items + c.in-Some.count → c.in_err-add.field-0.0 ≡ CountTooLarge = λ large.
    let same = c.in_err-add.ensures.too_large large in cc in
    rw (p.1, p.2) (⊎_elim (λ out. inl out)
    (λ large. inr (kind large, k.items, too_large c.args.self.now c.args.other c.loop-stack.self k c.in-Some.count c.next.new.self so large))
    c.in_err-add.ensures.refused)

pub returns-in_err-add-clause-part : goal.returns-in_err-add-clause-part
returns-in_err-add-clause-part c =
    let p = err_from_is_err_and c.from_residual.result c.from_residual.ensures.1 in
    let kept = c.in_err-add.ensures.unchanged in
    rw p.1 (λ stack. subst (λ entry. (entry ≡ entry_of c.args.self.now stack)
    ⊎ (entry ≡ together (entry_of c.args.self.now stack) (entry_of c.args.other stack)))
    (sym (ap (lookup (is_line stack)) kept)) (c.loop-stack.invariant.each stack).either)

pub returns-clause-counted : goal.returns-clause-counted
returns-clause-counted c =
    all_counted c.args.self.now c.args.other c.loop-stack.self
    (subst (IsMergedSoFar c.args.self.now c.args.other c.loop-stack.self) c.in-None.ensures.steps.0 c.loop-stack.invariant)

pub returns-clause-total : goal.returns-clause-total
returns-clause-total c =
    all_total c.args.self.now c.args.other c.loop-stack.self
    (subst (IsMergedSoFar c.args.self.now c.args.other c.loop-stack.self) c.in-None.ensures.steps.0 c.loop-stack.invariant)

pub returns-clause-too_large : goal.returns-clause-too_large
returns-clause-too_large c =
    none_large c.args.self.now c.args.other c.loop-stack.self
    (subst (IsMergedSoFar c.args.self.now c.args.other c.loop-stack.self) c.in-None.ensures.steps.0 c.loop-stack.invariant)
