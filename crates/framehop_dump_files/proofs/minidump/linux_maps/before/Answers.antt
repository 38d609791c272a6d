use Rattle.std.proofs.Common.{◌==◌, length, take, ap, sym, ◌∙◌, arith, rules}
use Rattle.std.proofs.Math.Seq.{take-length}
use Rattle.std.proofs.lemmas.List.Sums.{position_or_len_is}
use Rattle.framehop_dump_files.proofs.minidump.linux_maps.before.Goals as goal

pub returns-then-bytes-end : goal.returns-then-bytes-end
returns-then-bytes-end c =
    let bytes = c.args.bytes.now in
    let within = c.loop-end-test.true in
    let code_at = position_or_len_is (λ byte. byte == c.args.code) bytes c.loop-end.end 0 (search rules) c.loop-end.invariant (λ _. search rules) in
    c.front.ensures ∙ ap (λ end. take end bytes) (sym code_at)

pub returns : goal.returns
returns c =
    let bytes = c.args.bytes.now in
    let over = c.loop-end-test.false in
    let none_at = position_or_len_is (λ byte. byte == c.args.code) bytes (length bytes) 0 (omega arith) (λ k below. c.loop-end.invariant k (search rules)) (λ past. absurd (omega (arith, past))) in
    sym (ap (λ end. take end bytes) none_at ∙ take-length bytes)
