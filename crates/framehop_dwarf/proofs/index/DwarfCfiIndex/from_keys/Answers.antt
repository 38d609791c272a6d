use Rattle.std.proofs.Common.{◌≡◌, ◌∙◌, ℕ, List, length, map, ap, subst, arith}
use Rattle.std.specs.List.Sorted.{IsPermutation}
use Rattle.std.proofs.lemmas.List.{length-map}
use Rattle.std.proofs.lemmas.List.Sorted.{IsPermutation-trans, IsPermutation-map, length_permutation, IsNonDecreasingBy-from_sort}
use Rattle.framehop_dwarf.specs.Index.{pair_of_key}
use Rattle.framehop_dwarf.specs.Tree.{left_to_right, IsAscending}
use Rattle.framehop_dwarf.proofs.Ascending.{ascending-keys}
use Rattle.framehop_dwarf.proofs.Permuted.{permuted}
use Rattle.framehop_dwarf.proofs.Tree.{search-tree}
use Rattle.framehop_dwarf.proofs.Shortcuts.{tree-start}
use Rattle.framehop_dwarf.proofs.index.DwarfCfiIndex.from_keys.Goals as goal

-- the tree has the sorted pairs
from-sorted : (sorted : List ℕ) (tree : List (ℕ × ℕ)) → left_to_right tree ≡ map pair_of_key sorted → IsPermutation (map pair_of_key sorted) tree
from-sorted sorted tree is = subst (λ xs. IsPermutation xs tree) is (permuted tree)

in-order : (sorted : List ℕ) (tree : List (ℕ × ℕ)) → left_to_right tree ≡ map pair_of_key sorted → IsAscending (map pair_of_key sorted) → IsAscending (left_to_right tree)
in-order sorted tree is ascending = rw is ascending

pub last_start-last_start-requires : goal.last_start-last_start-requires
last_start-last_start-requires c =
    let sorted = c.sort_unstable.new.self.items in
    rw c.deref-2.ensures.value (ascending-keys sorted (IsNonDecreasingBy-from_sort (λ key. key) sorted c.sort_unstable.ensures.sorted))

pub shortcuts_of-requires-clause-tree : goal.shortcuts_of-requires-clause-tree
shortcuts_of-requires-clause-tree c =
    let sorted = c.sort_unstable.new.self.items in
    let is : left_to_right c.in_ok-tree.tree.items ≡ map pair_of_key sorted = c.in_ok-tree.ensures ∙ ap (map pair_of_key) c.deref.ensures.value in
    rw c.deref-3.ensures.value
    (search-tree c.in_ok-tree.tree.items (in-order sorted c.in_ok-tree.tree.items is (ascending-keys sorted (IsNonDecreasingBy-from_sort (λ key. key) sorted c.sort_unstable.ensures.sorted))))

pub shortcuts_of-requires-clause-few : goal.shortcuts_of-requires-clause-few
shortcuts_of-requires-clause-few c =
    let sorted = c.sort_unstable.new.self.items in
    let tree = c.in_ok-tree.tree.items in
    let is : left_to_right tree ≡ map pair_of_key sorted = c.in_ok-tree.ensures ∙ ap (map pair_of_key) c.deref.ensures.value in
    let same : length tree ≡ length (map pair_of_key sorted) = length_permutation (map pair_of_key sorted) tree (from-sorted sorted tree is) in
    let keys : length sorted ≡ length c.args.keys.items = length_permutation c.args.keys.items sorted c.sort_unstable.ensures.permutation in
    rw c.deref-3.ensures.value (omega (arith, same, keys, length-map sorted pair_of_key))

pub shortcuts_of-requires-clause-last : goal.shortcuts_of-requires-clause-last
shortcuts_of-requires-clause-last c =
    let sorted = c.sort_unstable.new.self.items in
    let tree = c.in_ok-tree.tree.items in
    let is : left_to_right tree ≡ map pair_of_key sorted = c.in_ok-tree.ensures ∙ ap (map pair_of_key) c.deref.ensures.value in
    rw c.deref-3.ensures.value
    (tree-start (map pair_of_key sorted) tree c.last_start-last_start.result (from-sorted sorted tree is) (rw c.deref-2.ensures.value at c.last_start-last_start.ensures))

pub invariant_of-result : goal.invariant_of-result
invariant_of-result c =
    let sorted = c.sort_unstable.new.self.items in
    let is : left_to_right c.in_ok-tree.tree.items ≡ map pair_of_key sorted = c.in_ok-tree.ensures ∙ ap (map pair_of_key) c.deref.ensures.value in
    record {
      ordered = in-order sorted c.in_ok-tree.tree.items is (ascending-keys sorted (IsNonDecreasingBy-from_sort (λ key. key) sorted c.sort_unstable.ensures.sorted));
      small = c.block_shift-shift.ensures;
      are = rw c.deref-3.ensures.value at c.in_ok-shortcuts.ensures;
    }

pub returns-clause-only : goal.returns-clause-only
returns-clause-only c =
    let tree = c.in_ok-tree.tree.items in
    let sorted = c.sort_unstable.new.self.items in
    let is : left_to_right tree ≡ map pair_of_key sorted = c.in_ok-tree.ensures ∙ ap (map pair_of_key) c.deref.ensures.value in
    IsPermutation-trans (map pair_of_key c.args.keys.items) (map pair_of_key sorted) tree (IsPermutation-map pair_of_key c.args.keys.items sorted c.sort_unstable.ensures.permutation) (from-sorted sorted tree is)

pub returns-clause-tree : goal.returns-clause-tree
returns-clause-tree c =
    let sorted = c.sort_unstable.new.self.items in
    let is : left_to_right c.in_ok-tree.tree.items ≡ map pair_of_key sorted = c.in_ok-tree.ensures ∙ ap (map pair_of_key) c.deref.ensures.value in
    search-tree c.in_ok-tree.tree.items (in-order sorted c.in_ok-tree.tree.items is (ascending-keys sorted (IsNonDecreasingBy-from_sort (λ key. key) sorted c.sort_unstable.ensures.sorted)))
