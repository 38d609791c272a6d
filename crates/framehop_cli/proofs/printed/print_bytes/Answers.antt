use Rattle.std.proofs.Common.{◌≡◌, ◌∙◌, ◌<◌, ◌≤◌, ℕ, ◌+◌, List, [], ◌∷◌, ◌++◌, drop, length, get_or, sym, ap, append_assoc, append-nil, drop-cons, rules, arith}
use Rattle.std.proofs.Math.ListN.{drop_of_length-le}
use Rattle.std.proofs.Output.{has_written_append, has_written_of_eq}
use Rattle.std.specs.List.{flat_map}
use Rattle.framehop_cli.specs.Printed.{byte_text}
use Rattle.framehop_cli.proofs.printed.print_bytes.Goals as goal

-- the next byte
next : (bytes : List ℕ) (i : ℕ) (written : List ℕ) → i < length bytes → written ++ flat_map byte_text (drop i bytes) ≡ flat_map byte_text bytes
    → (written ++ byte_text (get_or bytes i 0)) ++ flat_map byte_text (drop (i + 1) bytes) ≡ flat_map byte_text bytes
next bytes i written within whole =
    let left : drop i bytes ≡ get_or bytes i 0 ∷ drop (i + 1) bytes = grind (arith, drop-cons) in
    append_assoc written (byte_text (get_or bytes i 0)) (flat_map byte_text (drop (i + 1) bytes))
    ∙ ap (λ rest. written ++ flat_map byte_text rest) (sym left) ∙ whole

pub loop-byte-preserved : goal.loop-byte-preserved
loop-byte-preserved g c = λ plain.
    let met = c.loop-byte.invariant plain in
    let byte = get_or c.args.bytes.now c.loop-byte.byte-index 0 in (
      met.0 ++ byte_text byte,
      has_written_append _ _ _ _ _ _ met.1 (c.in_ok-print_byte.ensures met.1.plain (search rules)),
      next c.args.bytes.now c.loop-byte.byte-index met.0 (search rules) met.2,
    )

pub returns : goal.returns
returns g c = λ plain ok.
    let past : length c.args.bytes.now ≤ c.loop-byte.byte-index = search rules in
    let met = c.loop-byte.invariant plain in
    let none : drop c.loop-byte.byte-index c.args.bytes.now ≡ [] = drop_of_length-le c.args.bytes.now past in
    has_written_of_eq _ _ _ _ _ (sym (append-nil met.0) ∙ ap (λ rest. met.0 ++ flat_map byte_text rest) (sym none) ∙ met.2) met.1
