use Rattle.std.proofs.Common.{◌≡◌, ◌-◌, ◌*◌, ◌^◌, ◌<◌, ◌%◌, length, get_or, set, refl, ◌∙◌, arith}
use Rattle.std.proofs.lemmas.List.{get_or_default}
use Rattle.framehop_dwarf.proofs.Shortcuts.{shortcuts-begin, after-top, after-end, begins-before, shortcuts-end, on-path-few, begins-below}
use Rattle.framehop_dwarf.proofs.index.shortcuts_of.Goals.{then-index, else-index}
use Rattle.framehop_dwarf.proofs.index.shortcuts_of.Goals as goal

pub loop-block-init : goal.loop-block-init
loop-block-init c = shortcuts-begin c.args.tree.now c.args.shift c.args.last_start (2 ^ 32 - 1) c.in_ok-places.places.items c.in_ok-places.ensures

pub descend-requires : goal.descend-requires
descend-requires c =
    let places = c.loop-block.places.items in
    let block = c.loop-block.block in
    let here : block < length places = omega (arith, c.in_ok-places.ensures.long, c.loop-block.invariant.long) in
    let read : c.index.result.now ≡ get_or places block 0 = c.index.ensures ∙ get_or_default places block _ 0 here in
    let none : get_or places block 0 ≡ 2 ^ 32 - 1 = omega (arith, c.if-index.true) in
    let begins = begins-below c.args.last_start c.args.shift block (omega (arith, c.loop-block.invariant.long)) in
    let fits : block * 2 ^ c.args.shift % 2 ^ 32 ≡ block * 2 ^ c.args.shift = omega arith in
    rw fits (begins-before c.args.tree.now c.args.shift c.args.last_start (2 ^ 32 - 1) block c.loop-block.before places here c.loop-block.invariant none)

pub overflow_cast-descend : goal.overflow_cast-descend
overflow_cast-descend c = let few = on-path-few c.args.tree.now _ c.descend.result c.descend.ensures.on in let so = c.requires.few in omega arith

pub loop-block-preserved : goal.loop-block-preserved
loop-block-preserved c =
    let tree = c.args.tree.now in
    let places = c.loop-block.places.items in
    let block = c.loop-block.block in
    let here : block < length places = omega (arith, c.in_ok-places.ensures.long, c.loop-block.invariant.long) in
    let read : c.index.result.now ≡ get_or places block 0 = c.index.ensures ∙ get_or_default places block _ 0 here in
    elim c.if-index.branch [
      | then-index w ↦
          (let none : get_or places block 0 ≡ 2 ^ 32 - 1 = omega (arith, w.if-index.true) in
          let begins = begins-below c.args.last_start c.args.shift block (omega (arith, c.loop-block.invariant.long)) in
          let fits : block * 2 ^ c.args.shift % 2 ^ 32 ≡ block * 2 ^ c.args.shift = omega arith in
          let items : c.if-index.places.items ≡ set places block w.descend.result = rw w.places-is refl in
          after-end tree c.args.shift c.args.last_start (2 ^ 32 - 1) block c.loop-block.before places here c.if-index.places.items _ w.descend.result items c.index-in-loop-block.ensures
          c.loop-block.invariant none (rw fits at w.descend.ensures.on))
      | else-index w ↦
          (let items : c.if-index.places.items ≡ places = rw w.places-is refl in
          after-top tree c.args.shift c.args.last_start (2 ^ 32 - 1) block c.loop-block.before places here c.if-index.places.items _ items c.index-in-loop-block.ensures
          c.requires.tree c.loop-block.invariant (λ none. w.if-index.false (read ∙ none)))
    ]

pub returns : goal.returns
returns c =
    shortcuts-end c.args.tree.now c.args.shift c.args.last_start (2 ^ 32 - 1) c.loop-block.block c.loop-block.before c.loop-block.places.items c.requires.last c.loop-block.invariant
    (omega (arith, c.in_ok-places.ensures.long, c.loop-block.invariant.long))
