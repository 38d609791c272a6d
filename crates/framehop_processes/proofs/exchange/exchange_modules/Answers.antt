use Rattle.std.proofs.Common.{◌≡◌, ◌==◌, List, length, map, get_or, Some, true, false, arith, refl, ap, sym, subst, ◌∙◌}
use Rattle.std.proofs.lemmas.Bool.{eq-eqb}
use Rattle.framehop.specs.Modules.{ModuleView, has_start, without_module, with_module}
use Rattle.framehop_processes.specs.declared.mapping.Mapping.{Mapping}
use Rattle.framehop_processes.specs.Process.{StartsAt}
use Rattle.framehop_processes.proofs.ExchangeLemmas.{IsRising, order-rises, turn-kept, turn-removed, turn-added}
use Rattle.framehop_processes.proofs.exchange.exchange_modules.Goals as goal

abbrev none : Mapping
none = record { start = 0; end = 0; base_avma = 0; file = 0; has_sections = false }

pub loop-step-init : goal.loop-step-init
loop-step-init g c =
    let some : false ≡ (length c.args.old.now == 0) = c.if-is_empty.ensures in (
      omega arith,
      omega arith,
      omega arith,
      c.requires.modules,
      order-rises 0 c.args.old.now c.requires.ordered.0,
      λ low. let empty = some ∙ eq-eqb (length c.args.old.now) 0 (omega (arith, low)) in cc,
    )

pub loop-step-preserved-in-Keep : goal.loop-step-preserved-in-Keep
loop-step-preserved-in-Keep g c =
    let l = c.loop-step in
    let module_of : Mapping → ModuleView = g.M.ModuleMaker.module_of c.args.maker.now in
    let starts : StartsAt module_of = λ m. g.met.M.ModuleMaker.start_is c.args.maker.now m in
    let kept = c.next_step.ensures.kept (c.in-Some.is ∙ ap (λ step. Some step) c.in-Keep.is) in
    let more = kept.0 in
    let within = kept.1 in
    let same = turn-kept module_of starts c.args.old.now c.args.new.now l.gone l.come none (omega (arith, more)) within kept.2 in (
      l.invariant.0,
      omega (arith, more),
      omega (arith, within),
      l.invariant.3 ∙ ap (map module_of) (sym same),
      subst (λ (all : List Mapping). IsRising 0 all) (sym same) l.invariant.4,
      λ low. absurd (omega (arith, low, more)),
    )

pub overflow_add-changes : goal.overflow_add-changes
overflow_add-changes g c = let most = c.loop-step.invariant.0 in omega (arith, most)

pub loop-step-preserved-in-Remove : goal.loop-step-preserved-in-Remove
loop-step-preserved-in-Remove g c =
    let l = c.loop-step in
    let module_of : Mapping → ModuleView = g.M.ModuleMaker.module_of c.args.maker.now in
    let starts : StartsAt module_of = λ m. g.met.M.ModuleMaker.start_is c.args.maker.now m in
    let low = c.next_step.ensures.removed (c.in-Some.is ∙ ap (λ step. Some step) c.in-Remove.is) in
    let most = l.invariant.0 in
    let fewer = c.if-changes-eq-MOST_CHANGES.false in
    let m = get_or c.args.old.now l.gone none in
    let turn = turn-removed module_of starts c.args.old.now c.args.new.now l.gone l.come none m refl low l.invariant.4 in
    let there : has_start m.start (g.U.Unwinder.unwinder_view l.unwinder).modules ≡ true = rw l.invariant.3 turn.0 in
    let done = c.remove_one.ensures there in (
      omega (arith, most, fewer),
      omega (arith, low),
      l.invariant.2,
      done.0 ∙ ap (without_module m.start) l.invariant.3 ∙ turn.1,
      turn.2,
      λ all. done.1,
    )

pub overflow_add-changes-in-Add : goal.overflow_add-changes-in-Add
overflow_add-changes-in-Add g c = let most = c.loop-step.invariant.0 in omega (arith, most)

pub loop-step-preserved : goal.loop-step-preserved
loop-step-preserved g c =
    let l = c.loop-step in
    let module_of : Mapping → ModuleView = g.M.ModuleMaker.module_of c.args.maker.now in
    let starts : StartsAt module_of = λ m. g.met.M.ModuleMaker.start_is c.args.maker.now m in
    let added = c.next_step.ensures.added (c.in-Some.is ∙ ap (λ step. Some step) c.in-Add.is) in
    let within = added.0 in
    let most = l.invariant.0 in
    let fewer = c.if-changes-eq-MOST_CHANGES.false in
    let n = get_or c.args.new.now l.come none in
    let turn = turn-added module_of starts c.args.old.now c.args.new.now l.gone l.come none n refl
    c.requires.ordered.0 c.requires.ordered.1 within added.1 in
    let done = c.in_ok-add_one-in-Add.ensures.added in (
      omega (arith, most, fewer),
      l.invariant.1,
      omega (arith, within),
      done.0 ∙ ap (with_module (module_of n)) l.invariant.3 ∙ turn.0,
      turn.1,
      λ all. done.1,
    )
