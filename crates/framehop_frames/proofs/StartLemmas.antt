-- One more word of the registers with which a walk begins.
use Rattle.std.proofs.Common.{◌≡◌, ℕ, suc, ◌<◌, ◌-◌, ◌*◌, List, Option, Some, refl, ap, arith}
use Rattle.framehop_bytes.specs.Bytes.{le8}
use Rattle.framehop_callers.specs.RegisterFile.{with_word}
use Rattle.framehop_frames.specs.Start.{with_words}

less-one : (n : ℕ) → 0 < n → n ≡ suc (n - 1)
less-one n some = omega arith

pub one_word : (general : List ℕ) (n : ℕ) (words : List (Option ℕ)) → 0 < n
    → with_words general n words
    ≡ with_words general (n - 1) (with_word words (record { 0 = n - 1 }) (Some (le8 general ((n - 1) * 8))))
unfolding with_words
one_word general n words some = ap (λ (k : ℕ). with_words general k words) (less-one n some)

pub no_word : (general : List ℕ) (words : List (Option ℕ)) → with_words general 0 words ≡ words
unfolding with_words
no_word general words = refl
