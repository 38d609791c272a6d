use Rattle.std.proofs.Common.{◌==◌, length, take, ap, sym, ◌∙◌, arith, rules}
use Rattle.std.proofs.Math.Seq.{take-length}
use Rattle.std.proofs.lemmas.List.Sums.{position_or_len_is}
use Rattle.framehop_bytes.proofs.string.before_nul.Goals as goal

pub returns-then-bytes-end-eq0 : goal.returns-then-bytes-end-eq0
returns-then-bytes-end-eq0 c =
    let bytes = c.args.bytes.now in
    let within = c.loop-end-test.true in
    let zero_at = position_or_len_is (λ byte. byte == 0) bytes c.loop-end.end 0 (search rules) c.loop-end.invariant (λ _. search rules) in
    c.front.ensures ∙ ap (λ end. take end bytes) (sym zero_at)

pub returns : goal.returns
returns c =
    let bytes = c.args.bytes.now in
    let over = c.loop-end-test.false in
    let none_at = position_or_len_is (λ byte. byte == 0) bytes (length bytes) 0 (omega arith) (λ k below. c.loop-end.invariant k (search rules)) (λ past. absurd (omega (arith, past))) in
    sym (ap (λ end. take end bytes) none_at ∙ take-length bytes)
