-- Zeros that are appended a block at a time.
use Rattle.std.proofs.Common.{◌≡◌, ℕ, ◌+◌, ◌*◌, ◌/◌, ◌%◌, List, ◌++◌, take, replicate, ap, ◌∙◌, arith}
use Rattle.std.proofs.lemmas.List.{append_assoc, replicate-append-replicate, take-replicate}

pub blocks-more : (before bytes : List ℕ) (count : ℕ) → bytes ≡ before ++ replicate (count * 4096) 0
    → bytes ++ replicate 4096 0 ≡ before ++ replicate ((count + 1) * 4096) 0
blocks-more before bytes count is =
    ap (λ front. front ++ replicate 4096 0) is
    ∙ append_assoc before (replicate (count * 4096) 0) (replicate 4096 0)
    ∙ ap (λ zeros. before ++ zeros) (replicate-append-replicate (count * 4096) 4096 0)
    ∙ ap (λ n. before ++ replicate n 0) (omega arith)

pub blocks-last : (before bytes : List ℕ) (blocks count : ℕ) → blocks ≡ count / 4096
    → bytes ≡ before ++ replicate (blocks * 4096) 0
    → bytes ++ take (count % 4096) (replicate 4096 0) ≡ before ++ replicate count 0
blocks-last before bytes blocks count whole is =
    ap (λ rest. bytes ++ rest) (take-replicate (count % 4096) 4096 0 (omega arith))
    ∙ ap (λ front. front ++ replicate (count % 4096) 0) is
    ∙ append_assoc before (replicate (blocks * 4096) 0) (replicate (count % 4096) 0)
    ∙ ap (λ zeros. before ++ zeros) (replicate-append-replicate (blocks * 4096) (count % 4096) 0)
    ∙ ap (λ n. before ++ replicate n 0) (omega (arith, whole))
