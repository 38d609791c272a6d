use Rattle.std.proofs.Common.{rules, ◌≡◌, ◌<◌, ◌+◌, ℕ, List, [], ◌∷◌, Some, None, length, drop, get_or, refl, ap, sym, ◌∙◌, arith}
use Rattle.std.proofs.lemmas.List.{at_drop_more}
use Rattle.framehop_perf_stacks.specs.Kallsyms.{digit_of, next_value, value_after}
use Rattle.framehop_perf_stacks.proofs.kallsyms.value_of.Goals as goal

none-after : (bytes : List ℕ) → value_after None bytes ≡ None
none-after [] = refl
none-after (byte ∷ bytes) = refl

pub returns-in_err-value : goal.returns-in_err-value
returns-in_err-value c =
    let l = c.loop-byte in
    let digits = c.args.digits.now in
    let within : l.byte-index < length digits = omega (arith, c.loop-byte-test.true) in
    let none : c.from_residual.result ≡ None = search rules in
    let refused : c.next_value.result ≡ None = search rules in
    let next : next_value l.value (digit_of (get_or digits l.byte-index 0)) ≡ None =
    ap (next_value l.value) (sym c.digit_of.ensures.digit) ∙ sym c.next_value.ensures ∙ refused in
    none
    ∙ sym (l.invariant ∙ at_drop_more (value_after (Some l.value)) digits l.byte-index 0 within
    ∙ ap (λ value. value_after value (drop (l.byte-index + 1) digits)) next ∙ none-after (drop (l.byte-index + 1) digits))
