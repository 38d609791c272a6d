-- The part of a path after its last slash.
use Rattle.std.proofs.Common.{◌≡◌, ◌≢◌, ℕ, List, length, ◌-◌, ◌<◌, ◌≤◌, drop, get_or, true, false, refl, ap, ◌∙◌, arith}
use Rattle.std.specs.Prelude.{not, ◌==◌}
use Rattle.std.specs.List.{after_last, suffix_len}
use Rattle.std.proofs.lemmas.Grind.{common_steps}
use Rattle.std.proofs.lemmas.List.Sums.{suffix_len_is}

no_slash : (x : ℕ) → x ≢ 47 → not (x == 47) ≡ true
no_slash x ne = grind (arith, common_steps)

slash : (x : ℕ) → x ≡ 47 → not (x == 47) ≡ false
slash x e = rw e refl

pub base_name_from : (path : List ℕ) (start : ℕ) → start ≤ length path
    → ((k : ℕ) → start ≤ k → k < length path → get_or path k 0 ≢ 47)
    → (0 < start → get_or path (start - 1) 0 ≡ 47)
    → after_last (λ byte. byte == 47) path ≡ drop start path
base_name_from path start fits none one =
    let size : suffix_len (λ byte. not (byte == 47)) path ≡ length path - start =
    suffix_len_is (λ byte. not (byte == 47)) path start 0 fits (λ k from below. no_slash (get_or path k 0) (none k from below))
    (λ above. slash (get_or path (start - 1) 0) (one above)) in
    ap (λ n. drop (length path - n) path) size ∙ ap (λ n. drop n path) (omega arith)
