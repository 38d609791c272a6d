-- What the equality of two register files says of their registers.
use Rattle.std.proofs.Common.{◌≡◌, ℕ, Bool, ◌&&◌, nat_eq, List, length, ap, sym, ◌∙◌}
use lib.Pointwise.{pointwise}
use Rattle.framehop_core.specs.X86_64.Registers.{Registers, registers_of, words_of, words_of-registers_of}

-- two lists of sixteen words are equal where the registers are, one by one
pub eq-registers : (a b : Bool) (ip ip' : ℕ) (xs ys : List ℕ) (r r' : Registers) → registers_of ip xs ≡ r → registers_of ip' ys ≡ r' → length xs ≡ 16 → length ys ≡ 16 → a ≡ nat_eq ip ip' → b ≡ (a && pointwise nat_eq xs ys) → b ≡ (nat_eq r.ip r'.ip && pointwise nat_eq (words_of r) (words_of r'))
eq-registers a b ip ip' xs ys r r' same same' n n' first all =
    let xs_is : xs ≡ words_of r = sym (words_of-registers_of ip xs n) ∙ ap words_of same in
    let ys_is : ys ≡ words_of r' = sym (words_of-registers_of ip' ys n') ∙ ap words_of same' in
    let ip_is : ip ≡ r.ip = ap (λ t. t.ip) same in
    let ip'_is : ip' ≡ r'.ip = ap (λ t. t.ip) same' in
    all ∙ rw (first, xs_is, ys_is, ip_is, ip'_is)
