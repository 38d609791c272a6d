use Rattle.std.proofs.Common.{◌≡◌, ◌+◌, ◌-◌, ◌*◌, length, get_or, ◌∙◌, arith, inl, inr}
use Rattle.std.proofs.lemmas.Bool.{cases_lt, lt-ltb, le-ltb}
use Rattle.std.proofs.Math.Nat.{min-eq_left}
use Rattle.framehop_dwarf.specs.Tree.{IsOnPath, to_lesser, to_greater}
use Rattle.framehop_dwarf.proofs.index.next_place.Goals as goal

pub returns-then-place-tree-clause-on : goal.returns-then-place-tree-clause-on
returns-then-place-tree-clause-on c =
    let tree = c.args.tree.now in
    let place = c.args.place in
    let here = c.if-place-tree.true in
    let inside : c.min-inside.result ≡ place = c.min-inside.ensures ∙ min-eq_left {n = place} {m = length tree - 1} (omega arith) in
    let start = (get_or tree place (0, 0)).0 in
    let read = rw inside at c.from.ensures in
    elim (cases_lt c.args.address start) as (λ _. IsOnPath tree c.args.address (2 * c.min-inside.result + 2 - c.from.result)) [
      | inl far ↦
          (let step : c.from.result ≡ 1 = rw (lt-ltb c.args.address start far) at read in
          to_lesser c.requires.on here far (omega arith))
      | inr near ↦
          (let step : c.from.result ≡ 0 = rw (le-ltb c.args.address start near) at read in
          to_greater c.requires.on here near (omega arith))
    ]
