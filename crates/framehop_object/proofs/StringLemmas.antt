-- A string that ends before the first 0, compared with a name byte by byte.
use Rattle.std.proofs.Common.{◌≡◌, ℕ, suc, ◌+◌, ◌==◌, nat_eq, Bool, true, false, List, ◌∷◌, take, refl, ap, ◌∙◌, arith}
use Rattle.std.specs.Cmp.Lexicographic.{pointwise}
use Rattle.std.specs.List.{position_or_len}
use Rattle.framehop_bytes.specs.String.{before_nul}

-- the string at the front of bytes is a name
abbrev pub is_name : List ℕ → List ℕ → Bool
is_name bytes name = pointwise nat_eq (before_nul bytes) name

take-more : (n b : ℕ) (bytes : List ℕ) → take (1 + n) (b ∷ bytes) ≡ b ∷ take n bytes
take-more n b bytes = ap (λ m. take m (b ∷ bytes)) (let more : 1 + n ≡ suc n = omega arith in more)

nul-later : (b : ℕ) (bytes : List ℕ) → (b == 0) ≡ false → before_nul (b ∷ bytes) ≡ b ∷ before_nul bytes
nul-later b bytes is = rw is (take-more (position_or_len (λ byte. byte == 0) bytes) b bytes)

pub name-more : (b : ℕ) (bytes name : List ℕ) → (b == 0) ≡ false → (b == b) ≡ true → is_name (b ∷ bytes) (b ∷ name) ≡ is_name bytes name
name-more b bytes name is same = ap (λ string. pointwise nat_eq string (b ∷ name)) (nul-later b bytes is) ∙ rw same refl
