use Rattle.std.proofs.Common.{◌+◌, arith}
use Rattle.std.specs.Int.{w64, trailing_zeros}
use Rattle.std.proofs.lemmas.Nat.Bits.{bit_at-trailing_zeros}
use Rattle.framehop_dwarf.proofs.Shortcuts.{has-found, by-digits, number_of, on-path-few, offset-found, none-of, some-of}
use Rattle.framehop_dwarf.proofs.index.found_before.Goals as goal

pub returns-then-found-eq0 : goal.returns-then-found-eq0
returns-then-found-eq0 c =
    let tree = c.args.tree.now in
    let h = has-found tree c.args.address c.args.end c.requires.tree c.requires.on in
    let few = on-path-few tree c.args.address c.args.end c.requires.on in
    let digits = bit_at-trailing_zeros w64 (c.args.end + 1) (omega arith) (omega arith) in
    let number = by-digits (c.args.end + 1) (number_of h.found) (trailing_zeros w64 (c.args.end + 1)) digits.1 digits.2 h.number in
    none-of tree h.found _ _ (offset-found tree c.args.address c.args.end h c.requires.end) number c.if-found-eq0.true

pub returns : goal.returns
returns c =
    let tree = c.args.tree.now in
    let h = has-found tree c.args.address c.args.end c.requires.tree c.requires.on in
    let few = on-path-few tree c.args.address c.args.end c.requires.on in
    let digits = bit_at-trailing_zeros w64 (c.args.end + 1) (omega arith) (omega arith) in
    let number = by-digits (c.args.end + 1) (number_of h.found) (trailing_zeros w64 (c.args.end + 1)) digits.1 digits.2 h.number in
    some-of tree h.found _ _ (offset-found tree c.args.address c.args.end h c.requires.end) number c.if-found-eq0.false
