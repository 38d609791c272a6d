use Rattle.std.proofs.Common.{◌≡◌, ◌+◌, ◌*◌, ap, sym, ◌∙◌, arith, get_or}
use Rattle.std.specs.Prelude.{option_map}
use Rattle.std.proofs.lemmas.Bool.{lt-leb, le-leb}
use Rattle.framehop_dwarf.proofs.Searched.{search-begins, search-ends, on-to-greater, on-to-lesser, count-small, same-offset}
use Rattle.framehop_dwarf.proofs.index.search.Goals.{then-is_found, else-is_found}
use Rattle.framehop_dwarf.proofs.index.search.Goals as goal

pub loop-place-init : goal.loop-place-init
loop-place-init c = record { searching = search-begins c.args.tree.now c.args.address c.requires; inside = tt }

pub overflow_add-count : goal.overflow_add-count
overflow_add-count c =
    let small = count-small c.loop-place.count c.loop-place.place c.loop-place.invariant.searching.low (omega arith) in
    omega arith

pub loop-place-preserved : goal.loop-place-preserved
loop-place-preserved c =
    let tree = c.args.tree.now in
    let place = c.loop-place.place in
    let start = (get_or tree place (0, 0)).0 in
    elim c.if-is_found.branch [
      | then-is_found w ↦
          (let step : c.from.result ≡ 1 = rw (le-leb start c.args.address w.if-is_found.true) at c.from.ensures in
          on-to-greater tree c.args.address place c.loop-place.found c.loop-place.count (2 * place + 1 + c.from.result) c.if-is_found.found c.loop-place.invariant c.loop-place-test.true w.if-is_found.true w.found-is (omega arith))
      | else-is_found w ↦
          (let step : c.from.result ≡ 0 = rw (lt-leb start c.args.address w.if-is_found.false) at c.from.ensures in
          on-to-lesser tree c.args.address place c.loop-place.found c.loop-place.count (2 * place + 1 + c.from.result) c.if-is_found.found c.loop-place.invariant c.loop-place-test.true w.if-is_found.false w.found-is (omega arith))
    ]

pub returns-in-Some-clause-exact : goal.returns-in-Some-clause-exact
returns-in-Some-clause-exact c =
    let tree = c.args.tree.now in
    let ends = search-ends tree c.args.address c.loop-place.place _ c.loop-place.count c.loop-place.invariant.searching c.loop-place-test.false in
    ap (λ found. option_map (λ at. (get_or tree at (0, 0)).1) found) (sym c.in-Some.is) ∙ ends.0 ∙ same-offset tree c.args.address

pub returns-in-Some-clause-counted : goal.returns-in-Some-clause-counted
returns-in-Some-clause-counted c =
    (search-ends c.args.tree.now c.args.address c.loop-place.place _ c.loop-place.count c.loop-place.invariant.searching c.loop-place-test.false).1

pub returns-in-None-clause-exact : goal.returns-in-None-clause-exact
returns-in-None-clause-exact c =
    let tree = c.args.tree.now in
    let ends = search-ends tree c.args.address c.loop-place.place _ c.loop-place.count c.loop-place.invariant.searching c.loop-place-test.false in
    ap (λ found. option_map (λ at. (get_or tree at (0, 0)).1) found) (sym c.in-None.is) ∙ ends.0 ∙ same-offset tree c.args.address

pub returns-in-None-clause-counted : goal.returns-in-None-clause-counted
returns-in-None-clause-counted c =
    (search-ends c.args.tree.now c.args.address c.loop-place.place _ c.loop-place.count c.loop-place.invariant.searching c.loop-place-test.false).1
