use Rattle.std.proofs.Common.{◌≡◌, ℕ, zero, suc, ◌<◌, take, get_or, refl, ap, sym, ◌∙◌, arith}
use Rattle.std.specs.Prelude.{fold}
use Rattle.std.proofs.lemmas.List.Sums.{fold_more}
use Rattle.framehop_processes.specs.MadeUpId.{bit_of, bits_of, after_bit}
use Rattle.framehop_processes.proofs.made_up_id.after_byte.Goals as goal

bit-at : (byte place : ℕ) → place < 8 → get_or (bits_of byte) place 0 ≡ bit_of byte place
bit-at byte zero within = refl
bit-at byte (suc zero) within = refl
bit-at byte (suc (suc zero)) within = refl
bit-at byte (suc (suc (suc zero))) within = refl
bit-at byte (suc (suc (suc (suc zero)))) within = refl
bit-at byte (suc (suc (suc (suc (suc zero))))) within = refl
bit-at byte (suc (suc (suc (suc (suc (suc zero)))))) within = refl
bit-at byte (suc (suc (suc (suc (suc (suc (suc zero))))))) within = refl
bit-at byte (suc (suc (suc (suc (suc (suc (suc (suc more)))))))) within = absurd (omega (arith, within))

pub loop-place-preserved : goal.loop-place-preserved
loop-place-preserved c =
    let place = c.loop-place.place in
    c.after_bit-remainder.ensures
    ∙ ap (λ remainder. after_bit remainder c.bit_of.result) c.loop-place.invariant
    ∙ ap (after_bit (fold after_bit c.args.remainder (take place (bits_of c.args.byte)))) (c.bit_of.ensures ∙ sym (bit-at c.args.byte place c.loop-place-test.true))
    ∙ sym (fold_more after_bit c.args.remainder (bits_of c.args.byte) place 0 (omega (arith, c.loop-place-test.true)))
