-- The sums of Adler-32 one byte later.
use Rattle.std.proofs.Common.{◌≡◌, ℕ, suc, ◌+◌, ◌%◌, List, get_or, sym, ◌∙◌, ap, add-one}
use Rattle.std.proofs.Math.Nat.{mod-add-mod, add-mod-mod}
use Rattle.framehop_inflate.specs.Adler.{first_sum, second_sum}

pub add-same : (m a b s t : ℕ) → a % m ≡ s % m → b % m ≡ t % m → (a + b) % m ≡ (s + t) % m
add-same m a b s t h k =
    sym (mod-add-mod a m b) ∙ ap (λ z. (z + b) % m) h ∙ mod-add-mod s m b
    ∙ sym (add-mod-mod s b m) ∙ ap (λ z. (s + z) % m) k ∙ add-mod-mod s t m

pub first-more : (bytes : List ℕ) (i a x : ℕ) → a % 65521 ≡ first_sum bytes i % 65521 → x ≡ get_or bytes i 0
    → (a + x) % 65521 ≡ first_sum bytes (i + 1) % 65521
first-more bytes i a x h e =
    rw add-one (add-same 65521 a x (first_sum bytes i) (get_or bytes i 0) h (ap (λ z. z % 65521) e))

pub second-more : (bytes : List ℕ) (i b a : ℕ) → b % 65521 ≡ second_sum bytes i % 65521 → a % 65521 ≡ first_sum bytes (i + 1) % 65521
    → (b + a) % 65521 ≡ second_sum bytes (i + 1) % 65521
second-more bytes i b a h e =
    rw add-one (add-same 65521 b a (second_sum bytes i) (first_sum bytes (suc i)) h (rw add-one at e))
