use Rattle.std.proofs.Common.{rules, ◌≤◌, List, length, inl, None, refl, subst}
use Rattle.std.proofs.lemmas.List.{take_all}
use Rattle.framehop_processes.specs.declared.code_map.CodeFunction.{CodeFunction}
use Rattle.framehop_processes.specs.CodeMap.{AreNumberedOf}
use Rattle.framehop_processes.proofs.CodeMapLemmas.{last-more}
use Rattle.framehop_processes.proofs.code_map.CodeFunctions.new.Goals as goal

pub loop-number-init : goal.loop-number-init
loop-number-init c = λ address. (None, inl (λ key low. search rules, refl), refl)

pub loop-number-preserved : goal.loop-number-preserved
loop-number-preserved c = λ address.
    let was = c.loop-number.invariant address in (
      _,
      c.in_ok-put.ensures address was.0 was.1,
      last-more address c.deref-function-items.result.now c.args.functions.items c.loop-number.number c.function-item.result _ was.0
          c.deref-function-items.ensures.value c.loop-number-test.true c.function-item.is was.2,
    )

pub invariant_of-result : goal.invariant_of-result
invariant_of-result c =
    let functions = c.args.functions.items in
    let i = c.loop-number.number in
    let at_end : length functions ≤ i = subst (λ (all : List CodeFunction). length all ≤ i) c.deref-function-items.ensures.value c.loop-number-test.false in
    subst (λ all. AreNumberedOf functions all c.loop-number.by_address) (take_all i functions at_end) c.loop-number.invariant
