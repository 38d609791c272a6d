-- Counts of stacks.
use Rattle.std.proofs.Common.{◌≡◌, ℕ, List, ◌+◌, arith, refl, Option, Some, None}
use Rattle.std.specs.Global.{Global}
use Rattle.std.specs.declared.vec.Vec.{Vec}
use Rattle.std.specs.BTreeMap.{insert_entry}
use Rattle.std.specs.Map.{lookup, keys_of, values_of}
use Rattle.std.specs.List.{sum_by}
use Rattle.std.specs.List.Sorted.{IsStrictlySortedBy}
use Rattle.std.specs.Option.{unwrap_or, option_map}
use Rattle.std.specs.Cmp.Lexicographic.{on_texts}
use Rattle.std.proofs.lemmas.Map.Entries.{sum_by-insert_entry}
use Rattle.framehop_folded.specs.Laws.{by_items, is_line}

mapped_or : (found : Option ℕ) → unwrap_or (option_map (λ n. n) found) 0 ≡ unwrap_or found 0
mapped_or (Some n) = refl
mapped_or None = refl

-- what is added to a stack is added to all
pub sum_by-insert_more : (es : List (Vec ℕ Global × ℕ)) (k : Vec ℕ Global) (more : ℕ) → IsStrictlySortedBy by_items (keys_of es)
    → sum_by (λ n. n) (values_of (insert_entry by_items es k (unwrap_or (lookup (is_line k.items) es) 0 + more)))
    ≡ sum_by (λ n. n) (values_of es) + more
sum_by-insert_more es k more sorted =
    let before = unwrap_or (lookup (is_line k.items) es) 0 in
    let put = sum_by-insert_entry (λ n. n) (on_texts (λ (key : Vec ℕ Global). key.items)) es k (before + more) sorted in
    omega (arith, put, mapped_or (lookup (is_line k.items) es))
