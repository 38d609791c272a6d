use Rattle.std.proofs.Common.{◌<◌, ◌∙◌, suc, [], ◌∷◌, length, length-append, map, sym, ap, arith, rules}
use Rattle.framehop_cfi.specs.Section.{Section}
use Rattle.framehop_dwarf.specs.Index.{pair_of_key, no_memory}
use Rattle.framehop_dwarf.proofs.Lengths.{refused-length, after-length}
use Rattle.framehop_dwarf.proofs.Walk.{extent-refused, past-other, past-fde, begins, pushed, keyed, offset-small}
use Rattle.framehop_dwarf.proofs.index.read_keys.Goals as goal

pub loop-at-init : goal.loop-at-init
loop-at-init c = record {
  same = c.new-cies.ensures;
  few = let none = ap length c.new-keys.ensures.items in (omega arith, omega arith);
  rest = (suc (length c.args.section.now.bytes), omega arith, begins c.args.section.now c.args.base_svma (map pair_of_key c.new-keys.result.items) (ap (map pair_of_key) c.new-keys.ensures.items));
}

pub returns-in-Err-clause-first : goal.returns-in-Err-clause-first
returns-in-Err-clause-first c =
    let inv = c.loop-at.invariant.rest in
    let bytes = ap (λ (s : Section). s.bytes) c.section.view_is in
    let inside = rw bytes at c.loop-at-test.true in
    let read = rw bytes at c.in-Err.ensures.exact in
    λ kept. sym inv.2 ∙ extent-refused c.args.section.now c.args.base_svma (map pair_of_key c.loop-at.keys.items) inv.0 c.loop-at.at c.in-Err.error (inv.1, inside) (sym read)

pub returns-in-Err-clause-lengths : goal.returns-in-Err-clause-lengths
returns-in-Err-clause-lengths c = refused-length _ c.loop-at.at c.in-Err.error (sym c.in-Err.ensures.exact)

pub returns-then-is_err-clause-lengths : goal.returns-then-is_err-clause-lengths
returns-then-is_err-clause-lengths c = no_memory

pub returns-in_err-pair-clause-lengths : goal.returns-in_err-pair-clause-lengths
returns-in_err-pair-clause-lengths c = search (rules, c.in_err-pair.ensures.memory, no_memory)

pub loop-at-preserved : goal.loop-at-preserved
loop-at-preserved c =
    let inv = c.loop-at.invariant.rest in
    let bytes = ap (λ (s : Section). s.bytes) c.section.view_is in
    let inside = rw bytes at c.loop-at-test.true in
    let read = rw bytes at c.in-Ok.ensures.exact in
    let within = c.in-Ok.ensures.within in
    let behind = within.behind in
    let ordered = within.ordered in
    let further : c.loop-at.at < c.in-Ok.extent.end = omega arith in
    let some = sym c.is_zero_length.ensures ∙ c.if-is_zero_length.false in
    let on = past-other c.args.section.now c.args.base_svma (map pair_of_key c.loop-at.keys.items) inv.0 c.loop-at.at c.in-Ok.extent (inv.1, inside) further (sym read) some (sym c.in_ok-pair.ensures.exact ∙ c.in-None.is) in
    record {
      same = c.in_ok-pair.ensures.kept ∙ c.loop-at.invariant.same;
      few = (let so = c.loop-at.invariant.few.0 in omega arith, c.loop-at.invariant.few.1);
      rest = (on.0, on.1, on.2 ∙ inv.2);
    }

pub loop-at-preserved-else-is_err : goal.loop-at-preserved-else-is_err
loop-at-preserved-else-is_err c =
    let inv = c.loop-at.invariant.rest in
    let bytes = ap (λ (s : Section). s.bytes) c.section.view_is in
    let inside = rw bytes at c.loop-at-test.true in
    let read = rw bytes at c.in-Ok.ensures.exact in
    let within = c.in-Ok.ensures.within in
    let behind = within.behind in
    let ordered = within.ordered in
    let further : c.loop-at.at < c.in-Ok.extent.end = omega arith in
    let some = sym c.is_zero_length.ensures ∙ c.if-is_zero_length.false in
    let on = past-fde c.args.section.now c.args.base_svma (map pair_of_key c.loop-at.keys.items) inv.0 c.loop-at.at c.in-Ok.extent c.in-Some.pair (inv.1, inside) further (sym read) some (sym c.in_ok-pair.ensures.exact ∙ c.in-Some.is) in
    let all = pushed c.push.result _ _ _ (sym c.is_err.ensures.value ∙ c.if-is_err.false) c.push.ensures.items in
    let long = ap length all ∙ length-append c.loop-at.keys.items (c.key_of.result ∷ []) in
    let so = c.loop-at.invariant.few.0 in
    let past = after-length c.args.section.now.bytes c.loop-at.at c.in-Ok.extent (sym read) in
    let at_small = offset-small c.args.section.now c.args.base_svma c.loop-at.at c.in-Some.pair (sym c.in_ok-pair.ensures.exact ∙ c.in-Some.is) in
    record {
      same = c.in_ok-pair.ensures.kept ∙ c.loop-at.invariant.same;
      few = (omega arith, omega arith);
      rest = (on.0, on.1, rw (all, keyed c.loop-at.keys.items c.key_of.result c.in-Some.pair c.key_of.ensures) (on.2 ∙ inv.2));
    }
